-- Factors and powers in a commutative ring and a domain: division with a remainder, and by a power one factor at a time.
use Rattle.std.specs.Prelude.{◌≡◌, ◌≢◌, ◌↔◌, ℕ, zero, suc, ◌+◌, ◌-◌, ◌<◌}
use mathlib.Core.Logic.{inl, inr}
use mathlib.Core.Path.{sym, ap, ◌∙◌}
use native.Mathlib.Omega.{arith}
use Rattle.hp_algebra.specs.Ring.{RingOf, IsRing, IsCommutative, IsDomain, power}
use Rattle.hp_algebra.proofs.Rings.{add_cancel, add_swap, mul_cancel}
use Rattle.hp_poly.specs.Factors.{IsFactor}

module _ {R : Type 0} {ring : RingOf R} (laws : IsRing ring) where
  open ring use {zero as 0ᵣ, add, neg, mul, IsValue}

  -- where x = a q + r, a is a factor of x exactly where it is one of r
  pub factor_rest : (a x q r : R) → IsValue a → IsValue q → IsValue r → x ≡ add (mul a q) r
      → IsFactor ring a x ↔ IsFactor ring a r
  factor_rest a x q r va vq vr e = (
    λ d.
        let h = d.0 in
        let vh = d.1 in
        let nq = laws.neg_value q vq in
        let vd = laws.add_value h _ vh nq in
        let aq = laws.mul_value a q va vq in (
          add h (neg q),
          vd,
          add_cancel laws (mul a q) r _ aq vr (laws.mul_value a _ va vd)
              (sym e ∙ d.2
              ∙ ap (mul a) (sym (add_swap laws q h (neg q) vq vh nq ∙ ap (add h) (laws.add_neg q vq) ∙ laws.add_zero h vh))
              ∙ laws.mul_add a q _ va vq vd),
        ),
    λ d. (add q d.0, laws.add_value q d.0 vq d.1, e ∙ ap (add (mul a q)) d.2 ∙ sym (laws.mul_add a q d.0 va vq d.1)),
  )

  pub power-value : (a : R) (n : ℕ) → IsValue a → IsValue (power ring a n)
  power-value a zero v = laws.one_value
  power-value a (suc n) v = laws.mul_value a _ v (power-value a n v)

  pub power-plus : (a : R) (m n : ℕ) → IsValue a → power ring a (m + n) ≡ mul (power ring a m) (power ring a n)
  power-plus a zero n v =
      let e : 0 + n ≡ n = omega arith in
      ap (power ring a) e ∙ sym (laws.one_mul _ (power-value a n v))
  power-plus a (suc m) n v =
      let e : suc m + n ≡ suc (m + n) = omega arith in
      ap (power ring a) e ∙ ap (mul a) (power-plus a m n v) ∙ sym (laws.mul_assoc a _ _ v (power-value a m v) (power-value a n v))

  pub power-nonzero : IsDomain ring → (a : R) (n : ℕ) → IsValue a → a ≢ 0ᵣ → power ring a n ≢ 0ᵣ
  power-nonzero domain a zero v nonzero e = domain.one_zero e
  power-nonzero domain a (suc n) v nonzero e =
      elim (domain.no_zero_divisors a _ v (power-value a n v) e) [
        | inl z ↦ nonzero z
        | inr z ↦ power-nonzero domain a n v nonzero z
      ]

  -- ---- division by a power, one factor at a time: x = a^k q so far

  module _ (commutes : IsCommutative ring) where
    pub power-start : (a x : R) → IsValue x → x ≡ mul (power ring a 0) x
    power-start a x v = sym (laws.one_mul x v)

    -- one factor more
    pub power-step : (a x q h : R) (k : ℕ) → IsValue a → IsValue h → x ≡ mul (power ring a k) q → q ≡ mul a h
        → x ≡ mul (power ring a (k + 1)) h
    power-step a x q h k va vh e f =
        let vk = power-value a k va in
        let n : k + 1 ≡ suc k = omega arith in
        e ∙ ap (mul (power ring a k)) f ∙ sym (laws.mul_assoc _ a h vk va vh)
        ∙ ap (λ u. mul u h) (commutes _ a vk va) ∙ ap (λ i. mul (power ring a i) h) (sym n)

    -- a higher power is a factor only where a is a factor of what is left
    pub power-left : IsDomain ring → (a x q : R) (k n : ℕ) → IsValue a → a ≢ 0ᵣ → IsValue q → x ≡ mul (power ring a k) q
        → k < n → IsFactor ring (power ring a n) x → IsFactor ring a q
    power-left domain a x q k n va nonzero vq e l d =
        let j = n - k - 1 in
        let m : n ≡ k + suc j = omega (arith, l) in
        let vk = power-value a k va in
        let vj = power-value a j va in
        let vs = power-value a (suc j) va in
        let jh = laws.mul_value _ d.0 vj d.1 in (
          mul (power ring a j) d.0,
          jh,
          mul_cancel laws domain (power ring a k) q _ vk vq (laws.mul_value a _ va jh) (power-nonzero domain a k va nonzero)
              (sym e ∙ d.2 ∙ ap (λ i. mul (power ring a i) d.0) m ∙ ap (λ u. mul u d.0) (power-plus a k (suc j) va)
              ∙ laws.mul_assoc _ _ d.0 vk vs d.1 ∙ ap (mul (power ring a k)) (laws.mul_assoc a _ d.0 va vj d.1)),
        )

  -- the quotient is one
  pub quotient-unique : IsDomain ring → (a h k : R) → IsValue a → a ≢ 0ᵣ → IsValue h → IsValue k → mul a h ≡ mul a k → h ≡ k
  quotient-unique domain a h k va nonzero vh vk e = mul_cancel laws domain a h k va vh vk nonzero e
