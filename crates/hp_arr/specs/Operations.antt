-- Deletion, restriction and cone.
use Rattle.std.specs.Prelude.{ℕ, ◌+◌, ◌-◌, not, List, [], ◌∷◌, ◌++◌, map, filter, take, length, remove, reverse}
use Rattle.hp_algebra.specs.Ring.{RingOf}
use Rattle.hp_lists.specs.Lists.{below, first_of_list}
use Rattle.hp_arr.specs.Arrangement.{Arrangement, form}
use Rattle.hp_algebra.specs.Rows.{entry, is_zero_row, row_scale, row_minus, same_row, unit_row}

-- the arrangement without row i
abbrev pub deletion : {K : Type 0} → Arrangement K → ℕ → Arrangement K
deletion arr i = record { dim = arr.dim; forms = remove arr.forms (i - 1) }

module _ {K : Type 0} (ring : RingOf K) where
  open ring use {mul, is_zero}

  -- the rows without those that stand earlier too
  abbrev pub first_copies : List (List K) → List (List K)
  first_copies [] = []
  first_copies (a ∷ rows) = a ∷ filter (λ b. not (same_row ring a b)) (first_copies rows)

  -- the first and the last place at which the row is not zero, counted from 0
  abbrev pub first_place : List K → ℕ
  first_place row = first_of_list (λ j. not (is_zero (entry ring row j))) 0 (below (length row))

  abbrev pub last_place : List K → ℕ
  last_place row = first_of_list (λ j. not (is_zero (entry ring row j))) 0 (reverse (below (length row)))

  -- The cone over affine hyperplanes, whose rows end in the constant: the rows, and behind them the last coordinate.
  abbrev pub cone : ℕ → List (List K) → Arrangement K
  cone l rows = record { dim = l + 1; forms = rows ++ unit_row ring (l + 1) (l + 1) ∷ [] }

  module _ (inverse : K → K) where
    -- the row divided by its first entry that is not zero
    abbrev pub normalised : List K → List K
    normalised row = row_scale ring (inverse (entry ring row (first_place row))) row

    -- The row b on the hyperplane of the row a. With j the last place of the coefficients of a, x_j is put in terms of the other variables: b - (b_j / a_j) a, without its entry j.
    abbrev pub restricted_form : ℕ → List K → List K → List K
    restricted_form dim a b =
        let j = last_place (take dim a) in
        remove (row_minus ring b (row_scale ring (mul (entry ring b j) (inverse (entry ring a j))) a)) j

    -- the other hyperplanes cut with H_i, in the coordinates of H_i, without those that do not meet it
    unfoldable pub restriction : Arrangement K → ℕ → Arrangement K
    restriction arr i = record {
      dim = arr.dim - 1;
      forms = first_copies (map normalised (filter (λ b. not (is_zero_row ring (take (arr.dim - 1) b)))
          (map (restricted_form arr.dim (form arr i)) (deletion arr i).forms)));
    }
