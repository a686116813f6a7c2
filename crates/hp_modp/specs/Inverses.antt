-- Modulo a prime every residue but 0 has an inverse, found by one division after another.
use Rattle.std.specs.Prelude.{◌≡◌, ℕ, zero, suc, ◌+◌, ◌*◌, ◌-◌, ◌/◌, ◌%◌, ◌≤◌, ◌<◌}
use Rattle.std.proofs.Common.{arith, ap, sym, ◌∙◌, inl, inr}
use Rattle.std.proofs.Math.Nat.{dvd_of_mod-eq-zero, mod-eq_of_lt, mod-lt, div-add-mod, mul-add-mod_self_right, mul_assoc}
use Rattle.std.proofs.lemmas.Nat.{mul-mod_first, mul-mod_second}
use Rattle.std.proofs.lemmas.Bool.{cases_eq, cases_lt}
use Rattle.hp_modp.specs.Primes.{IsPrime}

-- p is 0 modulo a only where a is 1
pub rest_positive : (p a : ℕ) → IsPrime p → 1 < a → a < p → 0 < p % a
rest_positive p a prime above below =
    elim (cases_eq (p % a) 0) [
      | inl e ↦ absurd (elim (prime.divisors a (dvd_of_mod-eq-zero a e)) [ inl one ↦ omega arith | inr whole ↦ omega arith ])
      | inr ne ↦ omega arith
    ]

step_product : (b q t r : ℕ) → suc b * q + r ≡ q + t → suc b * t ≡ b * (q + t) + r
step_product b q t r e = omega (arith, e)

-- the step of the search for an inverse
pub inverse_step : (p a : ℕ) → 0 < a → a < p → (a * (p - p / a)) % p ≡ p % a
inverse_step p zero above below = absurd (omega arith)
inverse_step p (suc b) above below =
    let q = p / suc b in
    let r = p % suc b in
    let whole : suc b * q + r ≡ p = div-add-mod p (suc b) in
    let parts : q + (p - q) ≡ p = omega (arith, whole) in
    let small : r < suc b = mod-lt p (omega arith) in
    let product : suc b * (p - q) ≡ b * (q + (p - q)) + r = step_product b q (p - q) r (whole ∙ sym parts) in
    rw product (rw parts (mul-add-mod_self_right b p r ∙ mod-eq_of_lt (omega arith)))

-- each residue but 0 has an inverse
pub has_inverse : (p : ℕ) → IsPrime p → (n a : ℕ) → a ≤ n → 0 < a → a < p → (b : ℕ) × (b < p) × ((a * b) % p ≡ 1)
has_inverse p prime zero a bound above below = absurd (omega arith)
has_inverse p prime (suc n) a bound above below =
    elim (cases_lt 1 a) [
      | inl big ↦
          (let r = p % a in
          let smaller : r < a = mod-lt p above in
          let rest = has_inverse p prime n r (omega arith) (rest_positive p a prime big below) (omega arith) in
          let c = rest.0 in
          let f = p - p / a in (
            (f * c) % p,
            mod-lt (f * c) (omega arith),
            mul-mod_second a (f * c) p ∙ ap (λ x. x % p) (sym (mul_assoc a f c)) ∙ sym (mul-mod_first (a * f) c p) ∙ ap (λ x. (x * c) % p) (inverse_step p a above below) ∙ rest.2,
          ))
      | inr small ↦
          (let one : a ≡ 1 = omega arith in
          (1, prime.above_one, rw one (mod-eq_of_lt prime.above_one)))
    ]

pub factor_step : (p x f a : ℕ) → 0 < a → a < p → (x * f) % p ≡ a → (x * ((f * (p - p / a)) % p)) % p ≡ p % a
factor_step p x f a above below e =
    let by = p - p / a in
    mul-mod_second x (f * by) p ∙ ap (λ s. s % p) (sym (mul_assoc x f by)) ∙ sym (mul-mod_first (x * f) by p) ∙ ap (λ s. (s * by) % p) e ∙ inverse_step p a above below
