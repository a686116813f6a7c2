-- The fault of a list of forms, and of rows with constants.
use Rattle.std.specs.Prelude.{ℕ, ◌-◌, nat_lt, nat_le, if◌then◌else◌, ◌||◌, List, [], ◌∷◌, map, take, length, Option, Some, None, option_map, find, slice_index_or}
use Rattle.hp_algebra.specs.Ring.{RingOf, Numbering}
use Rattle.hp_lists.specs.Lists.{one_to, first_some}
use Rattle.hp_arr.specs.Arrangement.{max_forms}
use Rattle.hp_algebra.specs.Rows.{is_zero_row, is_multiple}
use Rattle.hp_arr.specs.declared.fault.ArrFault.{ArrFault}
use Rattle.hp_arr.specs.declared.fault.ArrFault.TheVariants.{ZeroForm, Repeated, TooMany}

-- row i, counted from 1
abbrev pub row : {K : Type 0} → List (List K) → ℕ → List K
row rows i = slice_index_or rows (i - 1) []

-- more forms than an arrangement may have, or no fewer than the field has elements
abbrev pub too_many_fault : {K : Type 0} → Numbering K → List (List K) → Option ArrFault
too_many_fault numbers rows = if nat_lt max_forms (length rows) || nat_le numbers.order (length rows) then Some (TooMany (length rows)) else None

module _ {K : Type 0} (ring : RingOf K) where
  -- the first form that is zero
  abbrev pub zero_fault : List (List K) → Option ArrFault
  zero_fault rows = option_map ZeroForm (find (λ i. is_zero_row ring (row rows i)) (one_to (length rows)))

module _ {K : Type 0} (ring : RingOf K) (numbers : Numbering K) where
  -- the first form before form j that is a multiple of form j
  abbrev pub earlier_multiple : List (List K) → ℕ → Option ℕ
  earlier_multiple rows j = find (λ i. is_multiple ring numbers (row rows i) (row rows j)) (one_to (j - 1))

  -- form j repeats its first earlier multiple
  abbrev pub repeat_of : List (List K) → ℕ → Option ArrFault
  repeat_of rows j = option_map (λ i. Repeated i j) (earlier_multiple rows j)

  -- the first form that repeats one
  abbrev pub repeated_fault : List (List K) → Option ArrFault
  repeated_fault rows = first_some (map (repeat_of rows) (one_to (length rows)))

  -- the first fault in this order: a form is zero, two are proportional, there are too many
  abbrev pub form_fault : List (List K) → Option ArrFault
  form_fault rows = first_some (zero_fault ring rows ∷ repeated_fault rows ∷ too_many_fault numbers rows ∷ [])

  -- The first fault of rows of l coefficients and a constant, in this order: the coefficients are all zero, two rows are proportional, there are too many
  abbrev pub affine_fault : ℕ → List (List K) → Option ArrFault
  affine_fault l rows = first_some (zero_fault ring (map (take l) rows) ∷ repeated_fault rows ∷ too_many_fault numbers rows ∷ [])
