-- Signs.
use Rattle.std.specs.Prelude.{◌≡◌, ℕ, zero, suc, ◌*◌, ◌⊎◌, pos, ◌*ℤ◌, neg_ℤ}
use Rattle.std.proofs.lemmas.Int.{ints}
use mathlib.Core.Logic.{inl, inr}
use mathlib.Core.Path.{refl, ap, ◌∙◌}
use native.Mathlib.Omega.{arith}
use Rattle.hp_algebra.specs.Integers.{sign}

-- a sign is 1 or -1
pub sign-cases : (k : ℕ) → (sign k ≡ pos 1) ⊎ (sign k ≡ neg_ℤ (pos 1))
sign-cases zero = inl refl
sign-cases (suc k) = elim (sign-cases k) as (λ _. (neg_ℤ (sign k) ≡ pos 1) ⊎ (neg_ℤ (sign k) ≡ neg_ℤ (pos 1))) [
  | inl e ↦ inr (ap neg_ℤ e)
  | inr e ↦ inl (ap neg_ℤ e)
]

pub sign_sign : (k n : ℕ) → (sign k *ℤ pos n) *ℤ sign k ≡ pos n
sign_sign k n = elim (sign-cases k) as (λ _. (sign k *ℤ pos n) *ℤ sign k ≡ pos n) [
  | inl e ↦ (λ i. (e i *ℤ pos n) *ℤ e i) ∙ plus n
  | inr e ↦ (λ i. (e i *ℤ pos n) *ℤ e i) ∙ minus n
]
  where
    plus : (n : ℕ) → (pos 1 *ℤ pos n) *ℤ pos 1 ≡ pos n
    plus n = omega (arith, ints)

    minus : (n : ℕ) → (neg_ℤ (pos 1) *ℤ pos n) *ℤ neg_ℤ (pos 1) ≡ pos n
    minus zero = refl
    minus (suc n) = ap (λ k. neg_ℤ (pos k) *ℤ neg_ℤ (pos 1)) (times (suc n)) ∙ ap pos (again (suc n))
      where
        times : (n : ℕ) → 1 * n ≡ n
        times n = omega arith

        again : (n : ℕ) → n * 1 ≡ n
        again n = omega arith
