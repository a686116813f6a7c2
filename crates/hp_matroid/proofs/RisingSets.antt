-- The sets within 1 to n are the rising lists within the list of these numbers.
use Rattle.std.specs.Prelude.{[], ℕ, ◌+◌, ◌<◌, ◌≤◌, ◌∷◌, slice_index_or}
use Rattle.std.specs.List.Sorted.{IsStrictlyIncreasing}
use Rattle.std.proofs.lemmas.List.Elements.{All-contains, Contains-get_or}
use Rattle.std.proofs.lemmas.List.Kept.{AllPairs-from_increasing}
use native.Mathlib.Omega.{arith}
use Rattle.hp_lists.specs.Lists.{one_to, Ordered}
use Rattle.hp_lists.proofs.Ordered.{Ordered-from_pairs, pairs_from_Ordered}
use Rattle.hp_lists.proofs.Ranges.{range_members, members_range}
use Rattle.hp_sets.specs.Sets.{Set, IsSetWithin}
use Rattle.hp_sets.proofs.SetLaws.{contains-Contains, Contains-contains}
use Rattle.hp_matroid.specs.Matroids.{Rises, Within}

-- the rising lists are those in order
rises-from_ordered : (s : Set) → Ordered (λ a b. a < b) s → Rises s
rises-from_ordered [] o = tt
rises-from_ordered (x ∷ s) o = ((λ y e. o.0 y (contains-Contains s y e)), rises-from_ordered s o.1)

ordered-from_rises : (s : Set) → Rises s → Ordered (λ a b. a < b) s
ordered-from_rises [] r = tt
ordered-from_rises (x ∷ s) r = ((λ y c. r.0 y (Contains-contains s y c)), ordered-from_rises s r.1)

pub rises-from_increasing : (s : Set) → IsStrictlyIncreasing s → Rises s
rises-from_increasing s h = rises-from_ordered s (Ordered-from_pairs (λ a b. a < b) s (AllPairs-from_increasing s h))

pub increasing-from_rises : (s : Set) → Rises s → IsStrictlyIncreasing s
increasing-from_rises s r k l = pairs_from_Ordered (λ a b. a < b) s (ordered-from_rises s r) k (k + 1) 0 (omega arith) l

-- a set within 1 to n is a rising list within the list of these numbers
pub set-rises : (n : ℕ) (s : Set) → IsSetWithin n s → Rises s × Within s (one_to n)
set-rises n s h = (
  rises-from_increasing s h.rising,
  λ i e. let p = All-contains (λ j. (1 ≤ j) × (j ≤ n)) s i h.members (contains-Contains s i e) in
      Contains-contains (one_to n) i (members_range i 1 n p.0 (omega (arith, p.1))),
)

pub set-from_rises : (n : ℕ) (s : Set) → Rises s → Within s (one_to n) → IsSetWithin n s
set-from_rises n s r w = record {
  rising = increasing-from_rises s r;
  members = λ k d l.
      let i = slice_index_or s k d in
      let p = range_members i 1 n (contains-Contains (one_to n) i (w i (Contains-contains s i (Contains-get_or s k d l)))) in
      (p.0, omega (arith, p.1));
}
