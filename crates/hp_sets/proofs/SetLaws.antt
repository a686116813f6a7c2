-- When a number is a member of a set, when two sets are equal, and the sets of the numbers with a property.
use Rattle.std.specs.Prelude.{◌≡◌, ◌↔◌, ℕ, zero, suc, ◌+◌, ◌<◌, ◌≤◌, ◌==◌, Bool, true, false, ◌&&◌, ◌||◌, List, [], ◌∷◌, filter, All, Contains, ◌⊎◌}
use Rattle.std.specs.List.{range_with_len}
use Rattle.std.proofs.lemmas.List.Elements.{All-nil, All-cons, All-contains, All-filter}
use Rattle.std.proofs.lemmas.Bool.{eqb-true, eq-eqb, false_from_ne_true, or_left, or_right, and_parts, and_from}
use mathlib.Core.Logic.{inl, inr}
use mathlib.Core.Path.{refl, sym, ◌∙◌}
use native.Mathlib.Omega.{arith}
use Rattle.hp_lists.specs.Lists.{one_to}
use Rattle.hp_lists.proofs.Members.{not_both, Contains-later, Contains-cases, Contains-none, Contains-filter, filter-Contains, filter-ext}
use Rattle.hp_lists.proofs.Ordered.{rises_of, increasing_of, rising-ext, Ordered-filter}
use Rattle.hp_lists.proofs.Ranges.{range_rises, range_members, members_range}
use Rattle.hp_sets.specs.Sets.{Set, IsSetWithin, contains, those}

-- ---- members

pub contains-Contains : (s : Set) (i : ℕ) → contains s i ≡ true → Contains s i
contains-Contains [] i e = absurd (not_both false e refl)
contains-Contains (j ∷ s) i e = step (j == i) refl e (contains-Contains s i)
  where
    step : (b : Bool) → (j == i) ≡ b → (b || contains s i) ≡ true → (contains s i ≡ true → Contains s i) → Contains (j ∷ s) i
    step true q h ih = (0, omega arith, eqb-true j i q)
    step false q h ih = Contains-later j s i (ih h)

pub Contains-contains : (s : Set) (i : ℕ) → Contains s i → contains s i ≡ true
Contains-contains [] i c = absurd (Contains-none i c)
Contains-contains (j ∷ s) i c = step (Contains-cases j s i c) (Contains-contains s i)
  where
    step : (j ≡ i) ⊎ Contains s i → (Contains s i → contains s i ≡ true) → ((j == i) || contains s i) ≡ true
    step (inl e) ih = or_left (j == i) (contains s i) (eq-eqb j i e)
    step (inr d) ih = or_right (j == i) (contains s i) (ih d)

pub contains-none : (s : Set) (i : ℕ) → (Contains s i → ⊥) → contains s i ≡ false
contains-none s i n = false_from_ne_true (contains s i) (λ e. n (contains-Contains s i e))

-- two tests that are true alike are equal
pub test-ext : (a b : Bool) → (a ≡ true → b ≡ true) → (b ≡ true → a ≡ true) → a ≡ b
test-ext true b f g = sym (f refl)
test-ext false true f g = g refl
test-ext false false f g = refl

-- a number is in a filtered list where it is in the list and passes
pub contains-filter : (test : ℕ → Bool) (i : ℕ) (xs : List ℕ) → contains (filter test xs) i ≡ (contains xs i && test i)
contains-filter test i xs = test-ext (contains (filter test xs) i) (contains xs i && test i) kept found
  where
    kept : contains (filter test xs) i ≡ true → (contains xs i && test i) ≡ true
    kept e =
        let c = filter-Contains test xs i (contains-Contains (filter test xs) i e) in
        and_from (contains xs i) (test i) (Contains-contains xs i c.0) c.1

    found : (contains xs i && test i) ≡ true → contains (filter test xs) i ≡ true
    found e =
        let h = and_parts (contains xs i) (test i) e in
        Contains-contains (filter test xs) i (Contains-filter test xs i (contains-Contains xs i h.0) h.1)

-- ---- sets

pub set_members : (m : ℕ) (s : Set) (i : ℕ) → IsSetWithin m s → Contains s i → (1 ≤ i) × (i ≤ m)
set_members m s i h c = All-contains (λ i. (1 ≤ i) × (i ≤ m)) s i h.members c

pub contains-outside : (m : ℕ) (s : Set) (i : ℕ) → IsSetWithin m s → ((1 ≤ i) × (i ≤ m) → ⊥) → contains s i ≡ false
contains-outside m s i h n = contains-none s i (λ c. n (set_members m s i h c))

-- two sets with the same members are equal
pub set-ext : (m k : ℕ) (s t : Set) → IsSetWithin m s → IsSetWithin k t → ((i : ℕ) → Contains s i → Contains t i) → ((i : ℕ) → Contains t i → Contains s i) → s ≡ t
set-ext m k s t p q f g = rising-ext s t (rises_of s p.rising) (rises_of t q.rising) f g

pub set-ext_test : (m k : ℕ) (s t : Set) → IsSetWithin m s → IsSetWithin k t → ((i : ℕ) → contains s i ≡ contains t i) → s ≡ t
set-ext_test m k s t p q f =
    set-ext m k s t p q
    (λ i c. contains-Contains t i (sym (f i) ∙ Contains-contains s i c))
    (λ i c. contains-Contains s i (f i ∙ Contains-contains t i c))

-- a set within fewer numbers is one within more
pub set-wider : (m k : ℕ) (s : Set) → m ≤ k → IsSetWithin m s → IsSetWithin k s
set-wider m k s l h = record { rising = h.rising; members = λ i d b. let r = h.members i d b in (r.0, trans _ m k r.1 l) }
  where
    trans : (i m k : ℕ) → i ≤ m → m ≤ k → i ≤ k
    trans i m k h l = omega arith

pub empty-set : (m : ℕ) → IsSetWithin m []
empty-set m = record { rising = λ k l. absurd (none k l); members = All-nil (λ i. (1 ≤ i) × (i ≤ m)) }
  where
    none : (k : ℕ) → k + 1 < 0 → ⊥
    none k l = omega arith

pub single-set : (m i : ℕ) → 1 ≤ i → i ≤ m → IsSetWithin m (i ∷ [])
single-set m i l h = record { rising = λ k l. absurd (none k l); members = All-cons (λ i. (1 ≤ i) × (i ≤ m)) i [] (l, h) (All-nil (λ i. (1 ≤ i) × (i ≤ m))) }
  where
    none : (k : ℕ) → k + 1 < 1 → ⊥
    none k l = omega arith

All-range : (P : ℕ → Type 0) (a n : ℕ) → ((k : ℕ) → a ≤ k → k < a + n → P k) → All P (range_with_len a n)
All-range P a zero h = All-nil P
All-range P a (suc n) h =
    All-cons P a _ (h a (omega arith) (omega arith)) (All-range P (a + 1) n (λ k l m. h k (omega arith) (omega arith)))

pub one_to-set : (m : ℕ) → IsSetWithin m (one_to m)
one_to-set m = record {
  rising = increasing_of _ (range_rises 1 m);
  members = All-range (λ i. (1 ≤ i) × (i ≤ m)) 1 m (λ i h l. (h, under i m l));
}
  where
    under : (i n : ℕ) → i < 1 + n → i ≤ n
    under i n l = omega arith

-- the numbers of a range that pass a test are a set
pub filter-set : (test : ℕ → Bool) (m : ℕ) → IsSetWithin m (filter test (one_to m))
filter-set test m = record {
  rising = increasing_of _ (Ordered-filter (λ x y. x < y) test (one_to m) (range_rises 1 m));
  members = All-filter test (λ i. (1 ≤ i) × (i ≤ m)) (one_to m) (one_to-set m).members;
}

-- ---- the numbers from 1 to 64 with a property

pub those-set : (test : ℕ → Bool) → IsSetWithin 64 (those test)
unfolding those
those-set test = filter-set test 64

pub those-members : (test : ℕ → Bool) (i : ℕ) → Contains (those test) i ↔ (((1 ≤ i) × (i ≤ 64)) × (test i ≡ true))
unfolding those
those-members test i = (
  (λ c. let d = filter-Contains test (one_to 64) i c in (within i (range_members i 1 64 d.0), d.1)),
  λ h. Contains-filter test (one_to 64) i (members_range i 1 64 h.0.0 (low i h.0)) h.1,
)
  where
    within : (i : ℕ) → (1 ≤ i) × (i < 1 + 64) → (1 ≤ i) × (i ≤ 64)
    within i h = omega arith

    low : (i : ℕ) → (1 ≤ i) × (i ≤ 64) → i < 1 + 64
    low i h = omega arith

pub contains-those : (test : ℕ → Bool) (i : ℕ) → 1 ≤ i → i ≤ 64 → contains (those test) i ≡ test i
contains-those test i l h =
    test-ext _ _ (λ e. ((those-members test i).0 (contains-Contains (those test) i e)).1) (λ e. Contains-contains (those test) i ((those-members test i).1 ((l, h), e)))

-- tests that agree from 1 to 64 give one set
pub those-ext : (p q : ℕ → Bool) → ((i : ℕ) → 1 ≤ i → i ≤ 64 → p i ≡ q i) → those p ≡ those q
unfolding those
those-ext p q h = filter-ext p q (one_to 64) (λ i c. let r = range_members i 1 64 c in h i r.0 (under i r.1))
  where
    under : (i : ℕ) → i < 1 + 64 → i ≤ 64
    under i l = omega arith

-- a set is the set of its members
pub those-contains : (s : Set) → IsSetWithin 64 s → those (contains s) ≡ s
those-contains s h =
    set-ext 64 64 (those (contains s)) s (those-set (contains s)) h
    (λ i c. contains-Contains s i ((those-members (contains s) i).0 c).1)
    (λ i c. (those-members (contains s) i).1 (set_members 64 s i h c, Contains-contains s i c))
