-- The list of all sets holds each rising list of the ground set.
use Rattle.std.specs.Prelude.{[], ◌≡◌, ℕ, zero, suc, ◌+◌, ◌<◌, ◌≤◌, Bool, true, false, ◌||◌, List, ◌∷◌, ◌++◌, map, length, ◌⊎◌, ℤ}
use Rattle.std.specs.List.{list_any, range_with_len}
use Rattle.std.proofs.lemmas.Bool.{cases_lt}
use mathlib.Core.Logic.{inl, inr}
use mathlib.Core.Path.{refl, sym, ap, ◌∙◌, subst}
use native.Mathlib.Omega.{arith}
use Rattle.hp_lists.specs.Lists.{one_to, sublists_of_length}
use Rattle.hp_algebra.specs.Integers.{sum_over}
use Rattle.hp_lists.proofs.Ranges.{range_members}
use Rattle.hp_sets.proofs.SetLaws.{contains-Contains}
use Rattle.std.proofs.lemmas.List.FromFn.{length-range_with_len}
use Rattle.hp_sets.specs.Sets.{Set, sets_within}
use Rattle.hp_matroid.specs.Matroids.{Rises, Within, Matroid}
use Rattle.hp_matroid.proofs.Subsets.{clash, or_right, or_left, or_case, head_in, within-both, within-more, sum_sub, sublists_to, sets-sublists, sum-sublists}
use Rattle.hp_matroid.proofs.RisingLists.{split, length-within}

any-append : {X : Type 0} (p : X → Bool) (a b : List X) → list_any p (a ++ b) ≡ (list_any p a || list_any p b)
any-append p [] b = refl
any-append p (x ∷ a) b = ap (λ c. p x || c) (any-append p a b) ∙ assoc (p x) (list_any p a) (list_any p b)
  where
    assoc : (a b c : Bool) → (a || (b || c)) ≡ ((a || b) || c)
    assoc true b c = refl
    assoc false b c = refl

any-map : {X Y : Type 0} (p : Y → Bool) (g : X → Y) (a : List X) → list_any p (map g a) ≡ list_any (λ x. p (g x)) a
any-map p g [] = refl
any-map p g (x ∷ a) = ap (λ b. p (g x) || b) (any-map p g a)

in_layer : (test : Set → Bool) (xs s : Set) → Rises xs → Rises s → Within s xs → test s ≡ true → list_any test (sublists_of_length (length s) xs) ≡ true
in_layer test xs [] r q w h = or_left (test []) false h
in_layer test [] (y ∷ s) r q w h = clash (sym (w y (head_in y s)))
in_layer test (x ∷ xs) (y ∷ s) r q w h =
    any-append test (map (λ t. x ∷ t) (sublists_of_length (length s) xs)) (sublists_of_length (suc (length s)) xs)
    ∙ step (split x xs (y ∷ s) r q w) (λ t rt wt k. in_layer (λ u. test (x ∷ u)) xs t r.1 rt wt k) (λ v. in_layer test xs (y ∷ s) r.1 q v h)
  where
    tail_same : (t : Set) → (y ∷ s) ≡ x ∷ t → s ≡ t
    tail_same t e = cc

    step : ((t : Set) × ((y ∷ s) ≡ x ∷ t) × Rises t × Within t xs) ⊎ Within (y ∷ s) xs
        → ((t : Set) → Rises t → Within t xs → test (x ∷ t) ≡ true → list_any (λ u. test (x ∷ u)) (sublists_of_length (length t) xs) ≡ true)
        → (Within (y ∷ s) xs → list_any test (sublists_of_length (suc (length s)) xs) ≡ true)
        → (list_any test (map (λ t. x ∷ t) (sublists_of_length (length s) xs)) || list_any test (sublists_of_length (suc (length s)) xs)) ≡ true
    step (inl p) one two = or_left (list_any test (map (λ t. x ∷ t) (sublists_of_length (length s) xs))) (list_any test (sublists_of_length (suc (length s)) xs))
        (any-map test (λ t. x ∷ t) (sublists_of_length (length s) xs)
        ∙ ap (λ n. list_any (λ u. test (x ∷ u)) (sublists_of_length n xs)) (ap length (tail_same p.0 p.1))
        ∙ one p.0 p.2 p.3 (ap test (sym p.1) ∙ h))
    step (inr v) one two = or_right (list_any test (map (λ t. x ∷ t) (sublists_of_length (length s) xs))) (list_any test (sublists_of_length (suc (length s)) xs)) (two v)

in_list : (test : Set → Bool) (k : ℕ) (xs s : Set) → length s ≤ k → list_any test (sublists_of_length (length s) xs) ≡ true → list_any test (sublists_to xs k) ≡ true
in_list test zero xs s l h = ap (λ n. list_any test (sublists_of_length n xs)) (none (length s) l) ∙ h
  where
    none : (n : ℕ) → n ≤ 0 → 0 ≡ n
    none n l = omega arith
in_list test (suc k) xs s l h = any-append test (sublists_to xs k) (sublists_of_length (suc k) xs) ∙ step (cases_lt k (length s)) (in_list test k xs s)
  where
    step : (k < length s) ⊎ (length s ≤ k) → (length s ≤ k → list_any test (sublists_of_length (length s) xs) ≡ true → list_any test (sublists_to xs k) ≡ true)
        → (list_any test (sublists_to xs k) || list_any test (sublists_of_length (suc k) xs)) ≡ true
    step (inl g) ih = or_right (list_any test (sublists_to xs k)) (list_any test (sublists_of_length (suc k) xs))
        (ap (λ n. list_any test (sublists_of_length n xs)) (same k (length s) g l) ∙ h)
      where
        same : (k n : ℕ) → k < n → n ≤ suc k → suc k ≡ n
        same k n g l = omega arith
    step (inr g) ih = or_left (list_any test (sublists_to xs k)) (list_any test (sublists_of_length (suc k) xs)) (ih g h)

from_layer : (test : Set → Bool) (k : ℕ) (xs : Set) → Rises xs → list_any test (sublists_of_length k xs) ≡ true → (s : Set) × Rises s × Within s xs × (test s ≡ true)
from_layer test zero xs r h = ([], tt, (λ i e. clash (sym e)), only h)
  where
    only : (test [] || false) ≡ true → test [] ≡ true
    only h = elim (or_case (test []) false h) as (λ _. test [] ≡ true) [
      | inl e ↦ e
      | inr e ↦ clash (sym e)
    ]
from_layer test (suc k) [] r h = clash (sym h)
from_layer test (suc k) (x ∷ xs) r h =
    step (or_case (list_any test (map (λ t. x ∷ t) (sublists_of_length k xs))) (list_any test (sublists_of_length (suc k) xs))
    (sym (any-append test (map (λ t. x ∷ t) (sublists_of_length k xs)) (sublists_of_length (suc k) xs)) ∙ h))
    (from_layer (λ u. test (x ∷ u)) k xs r.1) (from_layer test (suc k) xs r.1)
  where
    Found : (Set → Bool) → Type 0
    Found t = (s : Set) × Rises s × Within s xs × (t s ≡ true)

    step : (list_any test (map (λ t. x ∷ t) (sublists_of_length k xs)) ≡ true) ⊎ (list_any test (sublists_of_length (suc k) xs) ≡ true)
        → (list_any (λ u. test (x ∷ u)) (sublists_of_length k xs) ≡ true → Found (λ u. test (x ∷ u)))
        → (list_any test (sublists_of_length (suc k) xs) ≡ true → Found test)
        → (s : Set) × Rises s × Within s (x ∷ xs) × (test s ≡ true)
    step (inl g) one two = let f = one (sym (any-map test (λ t. x ∷ t) (sublists_of_length k xs)) ∙ g) in
        (x ∷ f.0, ((λ y e. r.0 y (f.2 y e)), f.1), within-both x f.0 xs f.2, f.3)
    step (inr g) one two = let f = two g in (f.0, f.1, within-more x f.0 xs f.2, f.3)

from_list : (test : Set → Bool) (k : ℕ) (xs : Set) → Rises xs → list_any test (sublists_to xs k) ≡ true → (s : Set) × Rises s × Within s xs × (test s ≡ true)
from_list test zero xs r h = from_layer test 0 xs r h
from_list test (suc k) xs r h =
    elim (or_case (list_any test (sublists_to xs k)) (list_any test (sublists_of_length (suc k) xs)) (sym (any-append test (sublists_to xs k) (sublists_of_length (suc k) xs)) ∙ h))
    as (λ _. (s : Set) × Rises s × Within s xs × (test s ≡ true)) [
      | inl g ↦ from_list test k xs r g
      | inr g ↦ from_layer test (suc k) xs r g
    ]

-- ---- the numbers 1 to n

pub range-rises : (a n : ℕ) → Rises (range_with_len a n)
range-rises a zero = tt
range-rises a (suc n) =
    ((λ y e. let r = range_members y (a + 1) n (contains-Contains (range_with_len (a + 1) n) y e) in omega (arith, r.0)), range-rises (a + 1) n)

-- the sum over `sets_within n` is the sum over all sublists of 1 to n
pub sum-sets_within : (n : ℕ) (f : Set → ℤ) → sum_over f (sets_within n) ≡ sum_sub f (one_to n)
unfolding sets_within
sum-sets_within n f = ap (λ l. sum_over f l) (sets-sublists n n) ∙ sum-sublists f n (one_to n) (low (length (one_to n)) n (length-range_with_len 1 n))
  where
    low : (a b : ℕ) → a ≡ b → a ≤ b
    low a b e = omega arith

-- `sets` lists the sets within the ground set, so far as tests can tell.
pub record IsListing (ground : Set) (sets : List Set) : Type 0 where
  pub has : (test : Set → Bool) (s : Set) → Rises s → Within s ground → test s ≡ true → list_any test sets ≡ true
  pub only : (test : Set → Bool) → list_any test sets ≡ true → (s : Set) × Rises s × Within s ground × (test s ≡ true)

-- `sets_within n` lists the rising lists within 1 to n
pub sets_within-listing : (n : ℕ) → IsListing (one_to n) (sets_within n)
unfolding sets_within
sets_within-listing n = record {
  has = λ test s r w h. ap (λ l. list_any test l) (sets-sublists n n) ∙ in_list test n (one_to n) s (low s r w) (in_layer test (one_to n) s (range-rises 1 n) r w h);
  only = λ test h. from_list test n (one_to n) (range-rises 1 n) (ap (λ l. list_any test l) (sym (sets-sublists n n)) ∙ h);
}
  where
    low : (s : Set) → Rises s → Within s (one_to n) → length s ≤ n
    low s r w = subst (λ k. length s ≤ k) (length-range_with_len 1 n) (length-within s (one_to n) r (range-rises 1 n) w)

pub ground-rises : (M : Matroid) → Rises (one_to M.size)
ground-rises M = range-rises 1 M.size
