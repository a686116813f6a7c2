-- What the bits of a word say of the members of its set.
use Rattle.std.specs.Prelude.{◌≡◌, ℕ, zero, suc, ◌+◌, ◌-◌, ◌*◌, ◌/◌, ◌%◌, ◌^◌, ◌<◌, ◌≤◌, ◌==◌, min, max, Bool, true, false, cond, not, ◌&&◌, ◌||◌, [], ◌∷◌, length, Contains, bit_and, bit_or, nat_eq, slice_get, Some, ◌⊎◌}
use Rattle.std.specs.Int.{w64, bit_at, bit_not, trailing_zeros, leading_zeros}
use Rattle.std.specs.Int.RustNames.{count_ones}
use Rattle.std.proofs.lemmas.Nat.{one_shl, ones_le_self, leading_top, le-div, div_below, pow_pos, and_le_l}
use Rattle.std.proofs.lemmas.Nat.Bits.{bit_at_and, bit_at_or, bit_at_not, bit_at-zero, bit_at-pow_same, bit_at-pow_other, bit_at_ones, bit_at_ones_above, bit_at-lt, bit_at-trailing_zeros, bit_at_above, ones_shr, shr_and_one}
use Rattle.std.proofs.lemmas.Bool.{eq-eqb, ne_eqb, eqb-true, eqb-false, cases_eq, cases_lt}
use Rattle.std.specs.Bool.{Decides}
use Rattle.std.specs.Cmp.Lexicographic.{pointwise, bytes_decides}
use Rattle.std.proofs.lemmas.Bool.Decides.{same_from_decides}
use lib.Count.{ones_step}
use native.Mathlib.Nat.{pow-suc}
use mathlib.Core.Logic.{inl, inr}
use mathlib.Core.Path.{refl, sym, ap, ◌∙◌, subst}
use native.Mathlib.Omega.{arith}
use Rattle.hp_lists.specs.Lists.{one_to}
use Rattle.hp_lists.proofs.Ordered.{rises_of}
use Rattle.hp_lists.proofs.Ranges.{members_range}
use Rattle.hp_sets.specs.Sets.{Set, IsSetWithin, contains, those, union, meet, minus, is_within, IsLeast, IsGreatest}
use Rattle.hp_sets.specs.Bits.{members, bits_of}
use Rattle.hp_sets.specs.BitLaws.{bits_of-members, places, members-places, places-suc, half_below}
use Rattle.hp_sets.proofs.SetLaws.{contains-Contains, Contains-contains, contains-outside, set_members, set-wider, empty-set, single-set, one_to-set, those-set, those-ext, contains-those, those-contains}
use Rattle.hp_sets.proofs.SetWithin.{is_within-minus}
use Rattle.hp_sets.proofs.Places.{get-least, get-greatest, least-some, greatest-some}

pub members-set : (n : ℕ) → IsSetWithin 64 (members n)
unfolding members
members-set n = those-set (λ i. bit_at n (i - 1) == 1)

pub contains-members : (n i : ℕ) → 1 ≤ i → i ≤ 64 → contains (members n) i ≡ (bit_at n (i - 1) == 1)
unfolding members
contains-members n i l h = contains-those (λ i. bit_at n (i - 1) == 1) i l h

-- a word whose bits say which numbers pass a test
pub members-those : (n : ℕ) (test : ℕ → Bool) → ((i : ℕ) → 1 ≤ i → i ≤ 64 → (bit_at n (i - 1) == 1) ≡ test i) → members n ≡ those test
unfolding members
members-those n test f = those-ext (λ i. bit_at n (i - 1) == 1) test f

-- a word whose bits say which numbers are in a set
pub members-of_set : (n : ℕ) (s : Set) → IsSetWithin 64 s → ((i : ℕ) → 1 ≤ i → i ≤ 64 → (bit_at n (i - 1) == 1) ≡ contains s i) → members n ≡ s
members-of_set n s h f = members-those n (contains s) f ∙ those-contains s h

-- ---- words of some sets

pub members-zero : members 0 ≡ []
members-zero = members-of_set 0 [] (empty-set 64) (λ i l h. ap (λ m. m == 1) (bit_at-zero (i - 1)))

-- only the word 0 has no member
pub members-empty : (n : ℕ) → n < 2 ^ 64 → members n ≡ [] → n ≡ 0
unfolding bits_of
members-empty n h e = sym (bits_of-members n h) ∙ ap bits_of e

pub members-same : (a b : ℕ) → a < 2 ^ 64 → b < 2 ^ 64 → members a ≡ members b → a ≡ b
members-same a b h k e = sym (bits_of-members a h) ∙ ap bits_of e ∙ bits_of-members b k

pub members-single : (i : ℕ) → 1 ≤ i → i ≤ 64 → members (1 * 2 ^ (i - 1) % 2 ^ 64) ≡ i ∷ []
members-single i l h =
    ap members (one_shl (i - 1) 64 (below i l h))
    ∙ members-of_set (2 ^ (i - 1)) (i ∷ []) (single-set 64 i l h) (λ j m k. bits j m (cases_eq i j))
  where
    below : (i : ℕ) → 1 ≤ i → i ≤ 64 → i - 1 < 64
    below i l h = omega arith

    apart : (i j : ℕ) → 1 ≤ i → 1 ≤ j → (i ≡ j → ⊥) → j - 1 ≡ i - 1 → ⊥
    apart i j l m n e = n (same i j l m e)
      where
        same : (i j : ℕ) → 1 ≤ i → 1 ≤ j → j - 1 ≡ i - 1 → i ≡ j
        same i j l m e = omega arith

    bits : (j : ℕ) → 1 ≤ j → (i ≡ j) ⊎ (i ≡ j → ⊥) → (bit_at (2 ^ (i - 1)) (j - 1) == 1) ≡ contains (i ∷ []) j
    bits j m (inl e) =
        ap (λ z. bit_at (2 ^ (i - 1)) (z - 1) == 1) (sym e) ∙ ap (λ b. b == 1) (bit_at-pow_same (i - 1))
        ∙ sym (ap (λ b. b || false) (eq-eqb i j e))
    bits j m (inr n) = ap (λ b. b == 1) (bit_at-pow_other (i - 1) (j - 1) (apart i j l m n)) ∙ sym (ap (λ b. b || false) (ne_eqb i j n))

pub members-first : (n : ℕ) → 1 ≤ n → n ≤ 64 → members ((2 ^ 64 - 1) / 2 ^ (64 - n)) ≡ one_to n
members-first n l h =
    ap members (ones_shr 64 (64 - n) (under n) ∙ ap (λ k. 2 ^ k - 1) (back n h))
    ∙ members-of_set (2 ^ n - 1) (one_to n) (set-wider n 64 (one_to n) h (one_to-set n)) (λ i m k. bits i m (cases_lt n i))
  where
    under : (n : ℕ) → 64 - n ≤ 64
    under n = omega arith

    back : (n : ℕ) → n ≤ 64 → 64 - (64 - n) ≡ n
    back n h = omega arith

    inside : (n i : ℕ) → 1 ≤ i → i ≤ n → i - 1 < n
    inside n i m k = omega arith

    past : (n i : ℕ) → n < i → n ≤ i - 1
    past n i g = omega arith

    high : (n i : ℕ) → i ≤ n → i < 1 + n
    high n i g = omega arith

    out : (n i : ℕ) → n < i → (1 ≤ i) × (i ≤ n) → ⊥
    out n i g r = omega arith

    bits : (i : ℕ) → 1 ≤ i → (n < i) ⊎ (i ≤ n) → (bit_at (2 ^ n - 1) (i - 1) == 1) ≡ contains (one_to n) i
    bits i m (inl g) = ap (λ b. b == 1) (bit_at_ones_above n (i - 1) (past n i g)) ∙ sym (contains-outside n (one_to n) i (one_to-set n) (out n i g))
    bits i m (inr g) = ap (λ b. b == 1) (bit_at_ones n (i - 1) (inside n i m g)) ∙ sym (Contains-contains (one_to n) i (members_range i 1 n m (high n i g)))

-- ---- unions, meets and differences

place : (i : ℕ) → 1 ≤ i → i ≤ 64 → i - 1 < 64
place i l h = omega arith

-- the greater of two bits, and the smaller
two-bits : (x y : ℕ) → x < 2 → y < 2 → ((max x y == 1) ≡ ((x == 1) || (y == 1))) × ((min x y == 1) ≡ ((x == 1) && (y == 1)))
two-bits zero zero p q = (refl, refl)
two-bits zero (suc zero) p q = (refl, refl)
two-bits (suc zero) zero p q = (refl, refl)
two-bits (suc zero) (suc zero) p q = (refl, refl)
two-bits (suc (suc x)) y p q = absurd (omega arith)
two-bits x (suc (suc y)) p q = absurd (omega arith)

not-bits : (y : ℕ) → y < 2 → (1 - y == 1) ≡ not (y == 1)
not-bits zero q = refl
not-bits (suc zero) q = refl
not-bits (suc (suc y)) q = absurd (omega arith)

pub members-or : (a b : ℕ) → members (bit_or a b) ≡ union (members a) (members b)
members-or a b = members-those (bit_or a b) (λ i. contains (members a) i || contains (members b) i) (λ i l h.
    ap (λ m. m == 1) (bit_at_or a b (i - 1))
    ∙ (two-bits (bit_at a (i - 1)) (bit_at b (i - 1)) (bit_at-lt a (i - 1)) (bit_at-lt b (i - 1))).0
    ∙ (λ j. sym (contains-members a i l h) j || sym (contains-members b i l h) j))

pub members-and : (a b : ℕ) → members (bit_and a b) ≡ meet (members a) (members b)
members-and a b = members-those (bit_and a b) (λ i. contains (members a) i && contains (members b) i) (λ i l h.
    ap (λ m. m == 1) (bit_at_and a b (i - 1))
    ∙ (two-bits (bit_at a (i - 1)) (bit_at b (i - 1)) (bit_at-lt a (i - 1)) (bit_at-lt b (i - 1))).1
    ∙ (λ j. sym (contains-members a i l h) j && sym (contains-members b i l h) j))

pub members-and_not : (a b : ℕ) → b < 2 ^ 64 → members (bit_and a (bit_not w64 b)) ≡ minus (members a) (members b)
members-and_not a b k = members-those (bit_and a (bit_not w64 b)) (λ i. contains (members a) i && not (contains (members b) i)) (λ i l h.
    ap (λ m. m == 1) (bit_at_and a (bit_not w64 b) (i - 1))
    ∙ (two-bits (bit_at a (i - 1)) (bit_at (bit_not w64 b) (i - 1)) (bit_at-lt a (i - 1)) (bit_at-lt (bit_not w64 b) (i - 1))).1
    ∙ (λ j. (bit_at a (i - 1) == 1) && (ap (λ m. m == 1) (bit_at_not w64 b (i - 1) k (place i l h)) ∙ not-bits (bit_at b (i - 1)) (bit_at-lt b (i - 1))) j)
    ∙ (λ j. sym (contains-members a i l h) j && not (sym (contains-members b i l h) j)))

-- ---- the size, the least member and the greatest

counted : (k a n : ℕ) → n < 2 ^ k → length (places n a k) ≡ count_ones n
counted zero a n h = zero_ones n (ones_le_self n) h
  where
    zero_ones : (n : ℕ) → count_ones n ≤ n → n < 2 ^ 0 → 0 ≡ count_ones n
    zero_ones n l h = omega arith
counted (suc k) a n h = ap length (places-suc n a k) ∙ step (n % 2 == 1) refl (counted k (a + 1) (n / 2) (half_below n k h)) ∙ sym (ones_step n)
  where
    odd : (n m : ℕ) → n % 2 ≡ 1 → suc m ≡ n % 2 + m
    odd n m e = omega arith

    even : (n m : ℕ) → (n % 2 ≡ 1 → ⊥) → m ≡ n % 2 + m
    even n m e = omega arith

    step : (b : Bool) → (n % 2 == 1) ≡ b → length (places (n / 2) (a + 1) k) ≡ count_ones (n / 2)
        → length (cond (n % 2 == 1) ((a + 1) ∷ places (n / 2) (a + 1) k) (places (n / 2) (a + 1) k)) ≡ n % 2 + count_ones (n / 2)
    step true e r = ap (λ b. length (cond b ((a + 1) ∷ places (n / 2) (a + 1) k) (places (n / 2) (a + 1) k))) e ∙ ap suc r ∙ odd n (count_ones (n / 2)) (eqb-true _ _ e)
    step false e r = ap (λ b. length (cond b ((a + 1) ∷ places (n / 2) (a + 1) k) (places (n / 2) (a + 1) k))) e ∙ r ∙ even n (count_ones (n / 2)) (eqb-false _ _ e)

pub length-members : (n : ℕ) → n < 2 ^ 64 → length (members n) ≡ count_ones n
length-members n h = ap length (members-places n) ∙ counted 64 0 n h

-- i + 1 is a member where bit i is set
set_at : (n i : ℕ) → i < 64 → bit_at n i ≡ 1 → Contains (members n) (i + 1)
set_at n i l e = contains-Contains (members n) (i + 1) (contains-members n (i + 1) (one i) (up i l) ∙ ap (λ j. bit_at n j == 1) (back i) ∙ ap (λ m. m == 1) e)
  where
    one : (i : ℕ) → 1 ≤ i + 1
    one i = omega arith

    up : (i : ℕ) → i < 64 → i + 1 ≤ 64
    up i l = omega arith

    back : (i : ℕ) → (i + 1) - 1 ≡ i
    back i = omega arith

-- a member i has its bit i - 1 set
record IsBit (n i : ℕ) : Type 0 where
  low : 1 ≤ i
  high : i ≤ 64
  set : bit_at n (i - 1) ≡ 1

bit_of : (n i : ℕ) → Contains (members n) i → IsBit n i
bit_of n i c =
    let r = set_members 64 (members n) i (members-set n) c in
    record { low = r.0; high = r.1; set = eqb-true _ _ (sym (contains-members n i r.0 r.1) ∙ Contains-contains (members n) i c) }

not_both_bits : (b : ℕ) → b ≡ 1 → b ≡ 0 → ⊥
not_both_bits b e f = omega arith

pub members-least : (n : ℕ) → 0 < n → n < 2 ^ 64 → slice_get (members n) 0 ≡ Some (trailing_zeros w64 n + 1)
members-least n l h =
    let t = bit_at-trailing_zeros w64 n l h in
    get-least (members n) (trailing_zeros w64 n + 1) (rises_of _ (members-set n).rising) (set_at n (trailing_zeros w64 n) t.0 t.1)
    (λ j c. let b = bit_of n j c in least j (trailing_zeros w64 n) b.low (cases_lt (j - 1) (trailing_zeros w64 n)) (λ m. not_both_bits _ b.set (t.2 (j - 1) m)))
  where
    least : (j t : ℕ) → 1 ≤ j → (j - 1 < t) ⊎ (t ≤ j - 1) → (j - 1 < t → ⊥) → t + 1 ≤ j
    least j t l (inl m) n = absurd (n m)
    least j t l (inr m) n = omega arith

pub members-greatest : (n : ℕ) → 0 < n → n < 2 ^ 64 → slice_get (members n) (length (members n) - 1) ≡ Some (64 - leading_zeros w64 n)
members-greatest n l h =
    let t = leading_top 64 n l h in
    get-greatest (members n) (64 - leading_zeros w64 n) (rises_of _ (members-set n).rising)
    (subst (Contains (members n)) (place_of t.0 (leading_zeros w64 n) t.1) (set_at n t.0 (inside t.0 (leading_zeros w64 n) t.1) (top n t.0 t.2 t.3)))
    (λ j c. let b = bit_of n j c in greatest j t.0 (leading_zeros w64 n) t.1 b.low (cases_lt (j - 1) (suc t.0)) (λ m. not_both_bits _ b.set (bit_at_above n (suc t.0) (j - 1) t.3 m)))
  where
    place_of : (t z : ℕ) → z + suc t ≡ 64 → t + 1 ≡ 64 - z
    place_of t z e = omega arith

    inside : (t z : ℕ) → z + suc t ≡ 64 → t < 64
    inside t z e = omega arith

    top : (n t : ℕ) → 2 ^ t ≤ n → n < 2 ^ suc t → bit_at n t ≡ 1
    top n t a b = one (n / 2 ^ t) (le-div 1 n (2 ^ t) (pow_pos t) (once (2 ^ t) n a)) (div_below n (2 ^ t) 2 (pow_pos t) (subst (λ m. n < m) (pow-suc 2 t ∙ swap (2 ^ t)) b))
      where
        once : (X n : ℕ) → X ≤ n → 1 * X ≤ n
        once X n l = omega arith

        swap : (X : ℕ) → X * 2 ≡ 2 * X
        swap X = omega arith

        one : (q : ℕ) → 1 ≤ q → q < 2 → q % 2 ≡ 1
        one q l m = omega arith

    greatest : (j t z : ℕ) → z + suc t ≡ 64 → 1 ≤ j → (j - 1 < suc t) ⊎ (suc t ≤ j - 1) → (suc t ≤ j - 1 → ⊥) → j ≤ 64 - z
    greatest j t z e l (inl m) n = omega arith
    greatest j t z e l (inr m) n = absurd (n m)

pub IsLeast-word : {s : Set} (n : ℕ) → members n ≡ s → 0 < n → n < 2 ^ 64 → IsLeast s (trailing_zeros w64 n + 1)
IsLeast-word {s} n e l h = subst (λ z. IsLeast z (trailing_zeros w64 n + 1)) e (least-some (members n) (Some (trailing_zeros w64 n + 1)) (members-set n) (sym (members-least n l h)))

pub IsGreatest-word : {s : Set} (n : ℕ) → members n ≡ s → 0 < n → n < 2 ^ 64 → IsGreatest s (64 - leading_zeros w64 n)
IsGreatest-word {s} n e l h = subst (λ z. IsGreatest z (64 - leading_zeros w64 n)) e (greatest-some (members n) (Some (64 - leading_zeros w64 n)) (members-set n) (sym (members-greatest n l h)))

-- words are equal where their sets are
pub same-words : {s t : Set} (a b : ℕ) → a < 2 ^ 64 → b < 2 ^ 64 → members a ≡ s → members b ≡ t → Decides (nat_eq a b) (s ≡ t)
same-words a b h k e f = (
  (λ g. sym e ∙ ap members (eqb-true a b g) ∙ f),
  λ g. eq-eqb a b (members-same a b h k (e ∙ g ∙ sym f)),
)

pub eq-words : {s t : Set} (a b : ℕ) → a < 2 ^ 64 → b < 2 ^ 64 → members a ≡ s → members b ≡ t → nat_eq a b ≡ pointwise nat_eq s t
eq-words {s} {t} a b h k e f = same_from_decides (nat_eq a b) (pointwise nat_eq s t) (same-words a b h k e f) (bytes_decides s t)

-- the test of one bit
pub contains-word : {s : Set} (n i : ℕ) → members n ≡ s → 1 ≤ i → i ≤ 64 → nat_eq (bit_and (n / 2 ^ (i - 1)) 1) 1 ≡ contains s i
contains-word {s} n i e l h = ap (λ m. m == 1) (shr_and_one n (i - 1)) ∙ sym (contains-members n i l h) ∙ ap (λ s. contains s i) e

-- a set lies within another where no bit is left without the other's
pub is_within-words : (a b : ℕ) → a < 2 ^ 64 → b < 2 ^ 64 → nat_eq (bit_and a (bit_not w64 b)) 0 ≡ is_within (members a) (members b)
is_within-words a b h k =
    is_within-minus (members a) (members b) (nat_eq (bit_and a (bit_not w64 b)) 0) (members-set a) (
      (λ e. sym (members-and_not a b k) ∙ ap members (eqb-true _ _ e) ∙ members-zero),
      λ e. eq-eqb _ _ (members-empty (bit_and a (bit_not w64 b)) (under _ a (and_le_l a (bit_not w64 b)) h) (members-and_not a b k ∙ e)),
    )
  where
    under : (m a : ℕ) → m ≤ a → a < 2 ^ 64 → m < 2 ^ 64
    under m a l h = omega arith

pub set-of_word : {s : Set} (n : ℕ) → members n ≡ s → IsSetWithin 64 s
set-of_word n e = subst (IsSetWithin 64) e (members-set n)

-- what the calls on words need
pub ruleset words = (members-set, members-zero, members-empty, members-same, members-single, members-first, members-or, members-and, members-and_not, length-members, members-least, members-greatest, is_within-words)
