-- The search for sets without broken circuit: members are put in front in falling order, and with a set go the remainders of all forms below its least member.
use Rattle.std.specs.Prelude.{ℕ, zero, suc, ◌==◌, Bool, true, if◌then◌else◌, not, List, [], ◌∷◌, ◌++◌, map, length, filter, take, slice_index_or, Option, Some, None}
use Rattle.hp_algebra.specs.Ring.{RingOf}
use Rattle.hp_algebra.specs.Rows.{is_zero_row}
use Rattle.hp_lists.specs.Lists.{list_all}
use Rattle.hp_sets.specs.Sets.{Set}
use Rattle.hp_arr.specs.Operations.{first_place}
use Rattle.hp_circuits.specs.RowSteps.{reduced}

-- the row at a place, counted from 0: the remainder of the form whose number is one greater
abbrev pub row_at : {K : Type 0} → List (List K) → ℕ → List K
row_at rows k = slice_index_or rows k []

-- whether a set is of the size that is wanted, where one is
abbrev pub is_wanted : Option ℕ → Set → Bool
is_wanted None s = true
is_wanted (Some k) s = length s == k

module _ {K : Type 0} (ring : RingOf K) where
  -- none of the rows is zero
  abbrev pub are_nonzero : List (List K) → Bool
  are_nonzero rows = list_all (λ w. not (is_zero_row ring w)) rows

  module _ (inverse : K → K) where
    -- the first m rows less the multiples of row m that make them zero at its first place
    abbrev pub rows_below : ℕ → List (List K) → List (List K)
    rows_below m rows = map (reduced ring inverse (first_place ring (row_at rows m)) (row_at rows m)) (take m rows)

    -- The set T, and the sets that it makes with some of the numbers up to m: such a number comes in front where none of the remainders below becomes zero.
    abbrev pub found_from : ℕ → Set → List (List K) → List Set
    found_from zero T rows = T ∷ []
    found_from (suc m) T rows =
        found_from m T rows
        ++ (if are_nonzero (rows_below m rows) then found_from m (suc m ∷ T) (rows_below m rows) else [])

    -- those of the wanted size
    abbrev pub wanted_from : Option ℕ → ℕ → Set → List (List K) → List Set
    wanted_from wanted m T rows = filter (is_wanted wanted) (found_from m T rows)
