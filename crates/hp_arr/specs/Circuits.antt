-- Circuits, broken circuits, and the sets that contain no broken circuit.
use Rattle.std.specs.Prelude.{ℕ, ◌==◌, Bool, not, List, map, length, filter, drop}
use Rattle.hp_algebra.specs.Ring.{RingOf, Numbering}
use Rattle.hp_lists.specs.Lists.{list_any}
use Rattle.hp_sets.specs.Sets.{Set, sets_within, is_within}
use Rattle.hp_arr.specs.Arrangement.{Arrangement}
use Rattle.hp_arr.specs.Flats.{is_circuit}

module _ {K : Type 0} (ring : RingOf K) (numbers : Numbering K) (arr : Arrangement K) where
  -- the circuits, by size and then in lexicographic order
  unfoldable pub circuits : List Set
  circuits = filter (is_circuit ring numbers arr) (sets_within (length arr.forms))

  -- each circuit without its least member
  unfoldable pub broken_circuits : List Set
  broken_circuits = map (drop 1) circuits

  -- the set contains no broken circuit
  unfoldable pub is_nbc : Set → Bool
  is_nbc s = not (list_any (λ b. is_within b s) broken_circuits)

  -- those sets, by size and then in lexicographic order, and those of one size
  unfoldable pub nbc_sets : List Set
  nbc_sets = filter is_nbc (sets_within (length arr.forms))

  unfoldable pub nbc_sets_of_size : ℕ → List Set
  nbc_sets_of_size k = filter (λ s. length s == k) nbc_sets
