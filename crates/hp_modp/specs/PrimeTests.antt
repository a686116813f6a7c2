-- A prime is known by trial division: a number with no divisor from 2 up to its square root.
use Rattle.std.specs.Prelude.{◌≡◌, ℕ, zero, suc, ◌+◌, ◌*◌, ◌/◌, ◌%◌, ◌≤◌, ◌<◌, ◌⊎◌, Bool, true, ◌&&◌, not, ◌==◌, nat_lt, refl}
use Rattle.std.specs.Int.{◌∣◌}
use Rattle.std.proofs.Common.{arith, sym, ◌∙◌, inl, inr, subst, eq-eqb}
use Rattle.std.proofs.Math.Nat.{mod-eq-zero_of_dvd, le_of_dvd, mul-div_cancel', mul-le-mul, dvd-mul_left, eq-zero_of_zero-dvd}
use Rattle.std.proofs.lemmas.Bool.{cases_eq, cases_lt, and_parts, not-true, false≢true}
use Rattle.std.proofs.lemmas.Bool.Decides.{nat_tests}
use Rattle.hp_modp.specs.Primes.{IsPrime}

-- none of 2 to n + 1 divides p
abbrev pub none_divides : ℕ → ℕ → Bool
none_divides p zero = true
none_divides p (suc n) = not (p % (n + 2) == 0) && none_divides p n

-- p is above 1 and below the square of n + 2, and none of 2 to n + 1 divides it
abbrev pub passes : ℕ → ℕ → Bool
passes p n = nat_lt 1 p && (nat_lt p ((n + 2) * (n + 2)) && none_divides p n)

none_divides_is : (p n : ℕ) → none_divides p n ≡ true → (d : ℕ) → 2 ≤ d → d ≤ n + 1 → d ∣ p → ⊥
none_divides_is p zero t d a b h = omega arith
none_divides_is p (suc n) t d a b h =
    let parts = and_parts _ _ t in
    elim (cases_eq d (n + 2)) [
      | inl e ↦ (let divides : p % (n + 2) ≡ 0 = rw e at (mod-eq-zero_of_dvd d h) in
          false≢true (sym (not-true _ parts.0) ∙ eq-eqb (p % (n + 2)) 0 divides))
      | inr ne ↦ none_divides_is p n parts.1 d a (omega arith) h
    ]

-- a divisor that is neither 1 nor p has a small one beside it
no_other : (p n d : ℕ) → 1 < p → p < (n + 2) * (n + 2) → none_divides p n ≡ true → 1 < d → d < p → d ∣ p → ⊥
no_other p n d above square t a b h =
    let q = p / d in
    let product : d * q ≡ p = mul-div_cancel' d h in
    elim (cases_lt d (n + 2)) [
      | inl small ↦ none_divides_is p n t d a (omega arith) h
      | inr large ↦ elim (cases_lt q (n + 2)) [
        | inl small_q ↦ none_divides_is p n t q (two d q p product a b) (omega arith) (subst (λ x. q ∣ x) product (dvd-mul_left q d))
        | inr large_q ↦ (let most = mul-le-mul large large_q in omega (arith, most, product))
      ]
    ]
  where
    two : (d q p : ℕ) → d * q ≡ p → 1 < d → d < p → 2 ≤ q
    two d zero p e a b = absurd (omega (arith, e))
    two d (suc zero) p e a b = absurd (omega (arith, e))
    two d (suc (suc q)) p e a b = omega arith

divisors_of : (p n d : ℕ) → 1 < p → p < (n + 2) * (n + 2) → none_divides p n ≡ true → d ∣ p → (d ≡ 1) ⊎ (d ≡ p)
divisors_of p n d above square t h =
    let most : d ≤ p = le_of_dvd (omega arith) h in
    elim (cases_eq d 0) [
      | inl e ↦ absurd (let none : p ≡ 0 = eq-zero_of_zero-dvd (subst (λ x. x ∣ p) e h) in omega arith)
      | inr positive ↦ elim (cases_eq d 1) [
        | inl one ↦ inl one
        | inr more ↦ elim (cases_eq d p) [
          | inl whole ↦ inr whole
          | inr less ↦ absurd (no_other p n d above square t (omega arith) (omega arith) h)
        ]
      ]
    ]

pub prime_from_passes : (p n : ℕ) → passes p n ≡ true → IsPrime p
prime_from_passes p n t =
    let parts = and_parts (nat_lt 1 p) (nat_lt p ((n + 2) * (n + 2)) && none_divides p n) t in
    let rest = and_parts (nat_lt p ((n + 2) * (n + 2))) (none_divides p n) parts.1 in
    let above : 1 < p = grind (arith, nat_tests, parts.0) in
    let square : p < (n + 2) * (n + 2) = grind (arith, nat_tests, rest.0) in
    record { above_one = above; divisors = λ d h. divisors_of p n d above square rest.1 h }

pub prime_5 : IsPrime 5
prime_5 = prime_from_passes 5 1 refl

pub prime_7 : IsPrime 7
prime_7 = prime_from_passes 7 1 refl

pub prime_13 : IsPrime 13
prime_13 = prime_from_passes 13 2 refl

pub prime_31 : IsPrime 31
prime_31 = prime_from_passes 31 4 refl

pub prime_101 : IsPrime 101
prime_101 = prime_from_passes 101 9 refl

pub prime_251 : IsPrime 251
prime_251 = prime_from_passes 251 14 refl

pub prime_32003 : IsPrime 32003
prime_32003 = prime_from_passes 32003 177 refl
