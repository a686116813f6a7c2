-- The first number of a range that passes a test, or at which there is something.
use Rattle.std.proofs.Common.{◌≡◌, ℕ, zero, suc, ◌+◌, ◌<◌, ◌≤◌, Bool, true, false, cond, List, ◌∷◌, map, Option, Some, None, refl, sym, ap, reverse, ◌∙◌, inl, inr, arith}
use Rattle.std.specs.List.{find}
use Rattle.std.specs.Option.{option_map}
use Rattle.std.proofs.lemmas.Bool.{false≢true, cases_eq}
use Rattle.hp_lists.specs.Lists.{range_with_len, first_of_list, first_below, first_some}
use Rattle.hp_lists.proofs.Ranges.{reverse-range}

-- ---- the first that passes, or else a default

-- where some number of the range passes, the first passes too and is no greater
pub first-range : (test : ℕ → Bool) (default k a n : ℕ) → a ≤ k → k < a + n → test k ≡ true
    → (test (first_of_list test default (range_with_len a n)) ≡ true)
    × (first_of_list test default (range_with_len a n) ≤ k)
first-range test default k a zero low high passes = absurd (omega arith)
first-range test default k a (suc n) low high passes =
    at (test a) refl (λ later. first-range test default k (a + 1) n later (omega arith) passes)
  where
    rest : ℕ
    rest = first_of_list test default (range_with_len (a + 1) n)

    at : (b : Bool) → test a ≡ b → (a + 1 ≤ k → (test rest ≡ true) × (rest ≤ k))
        → (test (cond b a rest) ≡ true) × (cond b a rest ≤ k)
    at true e later = (e, low)
    at false e later = later (elim (cases_eq a k) [ inl same ↦ absurd (false≢true (sym e ∙ ap test same ∙ passes)) | inr other ↦ omega arith ])

-- the first below n is a number that passes, and the least one, where there is any
pub first-below : (test : ℕ → Bool) (n k : ℕ) → k < n → test k ≡ true
    → (test (first_below n test) ≡ true) × (first_below n test ≤ k)
first-below test n k high passes = first-range test n k 0 n (omega arith) (omega arith) passes

-- a number of the range that passes, where those before it fail
pub first-at : (test : ℕ → Bool) (default a n j : ℕ) → a ≤ j → j < a + n → test j ≡ true
    → ((h : ℕ) → a ≤ h → h < j → test h ≡ false) → first_of_list test default (range_with_len a n) ≡ j
first-at test default a zero j from below at before = absurd (omega arith)
first-at test default a (suc n) j from below at before =
    elim (cases_eq a j) [
      | inl here ↦ ap (λ b. cond b a (first_of_list test default (range_with_len (a + 1) n))) (ap test here ∙ at) ∙ here
      | inr later ↦ (
          let after : a + 1 ≤ j = omega (arith, later) in
          ap (λ b. cond b a (first_of_list test default (range_with_len (a + 1) n))) (before a (omega arith) (omega arith))
          ∙ first-at test default (a + 1) n j after (omega arith) at (λ h low high. before h (omega arith) high))
    ]

-- of a range from its end the one that passes, where those behind it fail
pub last-at : (test : ℕ → Bool) (default a n j : ℕ) → a ≤ j → j < a + n → test j ≡ true
    → ((h : ℕ) → j < h → h < a + n → test h ≡ false) → first_of_list test default (reverse (range_with_len a n)) ≡ j
last-at test default a zero j from below at behind = absurd (omega arith)
last-at test default a (suc n) j from below at behind =
    let rest = first_of_list test default (reverse (range_with_len a n)) in
    ap (first_of_list test default) (reverse-range a n)
    ∙ elim (cases_eq (a + n) j) [
      | inl here ↦ ap (λ b. cond b (a + n) rest) (ap test here ∙ at) ∙ here
      | inr before ↦ (
          let within : j < a + n = omega (arith, before) in
          ap (λ b. cond b (a + n) rest) (behind (a + n) within (omega arith))
          ∙ last-at test default a n j from within at (λ h low high. behind h low (omega arith)))
    ]

-- ---- the first that passes, if any

pub find-first : (test : ℕ → Bool) (a n i : ℕ) → a ≤ i → i < a + n → test i ≡ true
    → ((h : ℕ) → a ≤ h → h < i → test h ≡ false) → find test (range_with_len a n) ≡ Some i
find-first test a zero i from below at before = absurd (omega arith)
find-first test a (suc n) i from below at before =
    elim (cases_eq a i) [
      | inl here ↦ ap (λ b. cond b (Some a) (find test (range_with_len (a + 1) n))) (ap test here ∙ at) ∙ ap (λ j. Some j) here
      | inr later ↦ (
          let after : a + 1 ≤ i = omega (arith, later) in
          let within : i < a + 1 + n = omega arith in
          ap (λ b. cond b (Some a) (find test (range_with_len (a + 1) n))) (before a (omega arith) (omega arith))
          ∙ find-first test (a + 1) n i after within at (λ h low high. before h (omega arith) high))
    ]

pub find-none : (test : ℕ → Bool) (a n : ℕ) → ((h : ℕ) → a ≤ h → h < a + n → test h ≡ false)
    → find test (range_with_len a n) ≡ None
find-none test a zero fails = refl
find-none test a (suc n) fails =
    ap (λ b. cond b (Some a) (find test (range_with_len (a + 1) n))) (fails a (omega arith) (omega arith))
    ∙ find-none test (a + 1) n (λ h low high. fails h (omega arith) (omega arith))

cond-none : {X : Type 0} (b : Bool) (x : X) (o : Option X) → cond b (Some x) o ≡ None → (b ≡ false) × (o ≡ None)
cond-none true x o e = absurd (cc e)
cond-none false x o e = (refl, e)

pub find-none_at : (test : ℕ → Bool) (a n : ℕ) → find test (range_with_len a n) ≡ None
    → (h : ℕ) → a ≤ h → h < a + n → test h ≡ false
find-none_at test a zero e h low high = absurd (omega arith)
find-none_at test a (suc n) e h low high =
    let parts = cond-none (test a) a (find test (range_with_len (a + 1) n)) e in
    elim (cases_eq a h) [
      | inl here ↦ ap test (sym here) ∙ parts.0
      | inr later ↦ find-none_at test (a + 1) n parts.1 h (omega (arith, later)) (omega arith)
    ]

-- ---- the first that is there

module _ {X : Type 0} where
  -- where there is none in the list, the first is none, and the rest have none
  pub first_some-parts : (o : Option X) (os : List (Option X)) → first_some (o ∷ os) ≡ None
      → (o ≡ None) × (first_some os ≡ None)
  first_some-parts None os e = (refl, e)
  first_some-parts (Some x) os e = absurd (cc e)

module _ {X : Type 0} (f : ℕ → Option X) where
  pub first_some-first : (a n i : ℕ) (x : X) → a ≤ i → i < a + n → f i ≡ Some x
      → ((h : ℕ) → a ≤ h → h < i → f h ≡ None) → first_some (map f (range_with_len a n)) ≡ Some x
  first_some-first a zero i x from below at before = absurd (omega arith)
  first_some-first a (suc n) i x from below at before =
      let rest = map f (range_with_len (a + 1) n) in
      elim (cases_eq a i) [
        | inl here ↦ ap (λ o. first_some (o ∷ rest)) (ap f here ∙ at)
        | inr later ↦ (
            let after : a + 1 ≤ i = omega (arith, later) in
            let within : i < a + 1 + n = omega arith in
            ap (λ o. first_some (o ∷ rest)) (before a (omega arith) (omega arith))
            ∙ first_some-first (a + 1) n i x after within at (λ h low high. before h (omega arith) high))
      ]

  pub first_some-none : (a n : ℕ) → ((h : ℕ) → a ≤ h → h < a + n → f h ≡ None)
      → first_some (map f (range_with_len a n)) ≡ None
  first_some-none a zero nothing = refl
  first_some-none a (suc n) nothing =
      ap (λ o. first_some (o ∷ map f (range_with_len (a + 1) n))) (nothing a (omega arith) (omega arith))
      ∙ first_some-none (a + 1) n (λ h low high. nothing h (omega arith) (omega arith))

  pub first_some-none_at : (a n : ℕ) → first_some (map f (range_with_len a n)) ≡ None
      → (h : ℕ) → a ≤ h → h < a + n → f h ≡ None
  first_some-none_at a zero e h low high = absurd (omega arith)
  first_some-none_at a (suc n) e h low high =
      let parts = first_some-parts (f a) (map f (range_with_len (a + 1) n)) e in
      elim (cases_eq a h) [
        | inl here ↦ ap f (sym here) ∙ parts.0
        | inr later ↦ first_some-none_at (a + 1) n parts.1 h (omega (arith, later)) (omega arith)
      ]

pub option_map-none : {X Y : Type 0} (f : X → Y) (o : Option X) → option_map f o ≡ None → o ≡ None
option_map-none f None e = refl
option_map-none f (Some x) e = absurd (cc e)
