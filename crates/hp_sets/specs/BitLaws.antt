-- A word is the sum of the powers of two of its members.
use Rattle.std.specs.Prelude.{◌≡◌, ℕ, zero, suc, ◌+◌, ◌-◌, ◌*◌, ◌/◌, ◌%◌, ◌^◌, ◌<◌, ◌≤◌, ◌==◌, Bool, true, false, cond, List, ◌∷◌, filter}
use Rattle.std.specs.Int.{bit_at}
use Rattle.std.specs.List.{range_with_len}
use Rattle.std.proofs.lemmas.Nat.Bits.{bit_at-suc, bit_at_lowest}
use Rattle.std.proofs.lemmas.Bool.{eqb-true, eqb-false}
use native.Mathlib.Nat.{pow-zero, pow-suc}
use mathlib.Core.Path.{refl, sym, ap, ◌∙◌, subst}
use native.Mathlib.Omega.{arith}
use Rattle.hp_sets.specs.Sets.{those}
use Rattle.hp_sets.specs.Bits.{members, bits_of}

-- two tests that agree on a range filter it alike
same-filter : (p q : ℕ → Bool) (a n : ℕ) → ((k : ℕ) → a ≤ k → k < a + n → p k ≡ q k) → filter p (range_with_len a n) ≡ filter q (range_with_len a n)
same-filter p q a zero h = refl
same-filter p q a (suc n) h =
    let e = h a (here a) (low a n) in
    let r = same-filter p q (a + 1) n (λ k l m. h k (step a k l) (next a n k m)) in
    λ i. cond (e i) (a ∷ r i) (r i)
  where
    here : (a : ℕ) → a ≤ a
    here a = omega arith

    low : (a n : ℕ) → a < a + suc n
    low a n = omega arith

    step : (a k : ℕ) → a + 1 ≤ k → a ≤ k
    step a k l = omega arith

    next : (a n k : ℕ) → k < (a + 1) + n → k < a + suc n
    next a n k l = omega arith

-- the numbers a + 1 to a + k of which the bit at their place from a + 1 is set
abbrev pub places : ℕ → ℕ → ℕ → List ℕ
places n a k = filter (λ i. bit_at n ((i - 1) - a) == 1) (range_with_len (a + 1) k)

pub members-places : (n : ℕ) → members n ≡ places n 0 64
unfolding members those
members-places n = same-filter (λ i. bit_at n (i - 1) == 1) (λ i. bit_at n ((i - 1) - 0) == 1) 1 64 (λ i l m. ap (λ j. bit_at n j == 1) (less_zero i))
  where
    less_zero : (i : ℕ) → i - 1 ≡ (i - 1) - 0
    less_zero i = omega arith

-- the lowest bit, and then the bits of the half
pub places-suc : (n a k : ℕ) → places n a (suc k) ≡ cond (n % 2 == 1) ((a + 1) ∷ places (n / 2) (a + 1) k) (places (n / 2) (a + 1) k)
places-suc n a k = λ i. cond (lowest i == 1) ((a + 1) ∷ rest i) (rest i)
  where
    start : (a : ℕ) → ((a + 1) - 1) - a ≡ 0
    start a = omega arith

    lowest : bit_at n (((a + 1) - 1) - a) ≡ n % 2
    lowest = ap (bit_at n) (start a) ∙ bit_at_lowest n

    place : (i a : ℕ) → (a + 1) + 1 ≤ i → (i - 1) - a ≡ suc ((i - 1) - (a + 1))
    place i a l = omega arith

    rest : filter (λ i. bit_at n ((i - 1) - a) == 1) (range_with_len ((a + 1) + 1) k) ≡ places (n / 2) (a + 1) k
    rest = same-filter (λ i. bit_at n ((i - 1) - a) == 1) (λ i. bit_at (n / 2) ((i - 1) - (a + 1)) == 1) ((a + 1) + 1) k
        (λ i l m. ap (λ b. b == 1) (ap (bit_at n) (place i a l) ∙ bit_at-suc n ((i - 1) - (a + 1))))

pub half_below : (n k : ℕ) → n < 2 ^ suc k → n / 2 < 2 ^ k
half_below n k h = halved n (2 ^ k) (subst (λ m. n < m) (pow-suc 2 k) h)
  where
    halved : (n X : ℕ) → n < X * 2 → n / 2 < X
    halved n X h = omega arith

-- the bits of n, each moved up by a places, add up to n 2^a
moved : (k a n : ℕ) → n < 2 ^ k → bits_of (places n a k) ≡ n * 2 ^ a
unfolding bits_of
moved zero a n h = nothing n (2 ^ a) (subst (λ m. n < m) (pow-zero 2) h)
  where
    nothing : (n X : ℕ) → n < 1 → 0 ≡ n * X
    nothing zero X h = omega arith
    nothing (suc n) X h = absurd (none n h)
      where
        none : (n : ℕ) → suc n < 1 → ⊥
        none n h = omega arith
moved (suc k) a n h = ap bits_of (places-suc n a k) ∙ step (n % 2 == 1) refl (moved k (a + 1) (n / 2) (half_below n k h))
  where
    power_next : 2 ^ (a + 1) ≡ 2 ^ a * 2
    power_next = ap (λ j. 2 ^ j) (next a) ∙ pow-suc 2 a
      where
        next : (a : ℕ) → a + 1 ≡ suc a
        next a = omega arith

    back : (a : ℕ) → (a + 1) - 1 ≡ a
    back a = omega arith

    odd : (n h X : ℕ) → n ≡ h * 2 + 1 → X + h * (X * 2) ≡ n * X
    odd n h X e = spread h X ∙ ap (λ m. m * X) (sym e)
      where
        spread : (h X : ℕ) → X + h * (X * 2) ≡ (h * 2 + 1) * X
        spread h X = omega arith

    even : (n h X : ℕ) → n ≡ h * 2 → h * (X * 2) ≡ n * X
    even n h X e = spread h X ∙ ap (λ m. m * X) (sym e)
      where
        spread : (h X : ℕ) → h * (X * 2) ≡ (h * 2) * X
        spread h X = omega arith

    whole_odd : (n : ℕ) → n % 2 ≡ 1 → n ≡ n / 2 * 2 + 1
    whole_odd n e = omega arith

    whole_even : (n : ℕ) → (n % 2 ≡ 1 → ⊥) → n ≡ n / 2 * 2
    whole_even n e = omega arith

    rest : List ℕ
    rest = places (n / 2) (a + 1) k

    step : (b : Bool) → (n % 2 == 1) ≡ b → bits_of rest ≡ n / 2 * 2 ^ (a + 1) → bits_of (cond (n % 2 == 1) ((a + 1) ∷ rest) rest) ≡ n * 2 ^ a
    step true e r =
        ap (λ b. bits_of (cond b ((a + 1) ∷ rest) rest)) e
        ∙ (λ i. 2 ^ back a i + (r ∙ ap (λ m. n / 2 * m) power_next) i)
        ∙ odd n (n / 2) (2 ^ a) (whole_odd n (eqb-true _ _ e))
    step false e r =
        ap (λ b. bits_of (cond b ((a + 1) ∷ rest) rest)) e
        ∙ r ∙ ap (λ m. n / 2 * m) power_next
        ∙ even n (n / 2) (2 ^ a) (whole_even n (eqb-false _ _ e))

pub bits_of-members : (n : ℕ) → n < 2 ^ 64 → bits_of (members n) ≡ n
bits_of-members n h = ap bits_of (members-places n) ∙ moved 64 0 n h ∙ times_one n
  where
    times_one : (n : ℕ) → n * 2 ^ 0 ≡ n
    times_one n = ap (λ m. n * m) (pow-zero 2) ∙ one n
      where
        one : (n : ℕ) → n * 1 ≡ n
        one n = omega arith
