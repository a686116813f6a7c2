-- Rows over a ring: lists of coefficients, or points. Entries are counted from 0.
use Rattle.std.specs.Prelude.{◌≡◌, ℕ, ◌==◌, Bool, true, false, if◌then◌else◌, ◌&&◌, List, [], ◌∷◌, map, length, All, replicate, slice_index_or}
use Rattle.hp_lists.specs.Lists.{one_to, list_all, list_any}
use Rattle.hp_algebra.specs.Ring.{RingOf, Numbering, elements}

module _ {R : Type 0} (ring : RingOf R) where
  open ring use {zero as 0ᵣ, one as 1ᵣ, add, neg, mul, is_zero, IsValue}

  -- so many values
  abbrev pub IsRow : ℕ → List R → Type 0
  IsRow width row = (length row ≡ width) × All IsValue row

  -- entry j, counted from 0
  abbrev pub entry : List R → ℕ → R
  entry row j = slice_index_or row j 0ᵣ

  abbrev pub zero_row : ℕ → List R
  zero_row width = replicate width 0ᵣ

  -- whether each entry is zero
  abbrev pub is_zero_row : List R → Bool
  is_zero_row row = list_all is_zero row

  -- whether the rows have the same entries, and as many
  abbrev pub same_row : List R → List R → Bool
  same_row [] [] = true
  same_row [] (y ∷ b) = false
  same_row (x ∷ a) [] = false
  same_row (x ∷ a) (y ∷ b) = is_zero (add x (neg y)) && same_row a b

  -- the sum, place by place
  abbrev pub row_plus : List R → List R → List R
  row_plus [] b = []
  row_plus (x ∷ a) [] = []
  row_plus (x ∷ a) (y ∷ b) = add x y ∷ row_plus a b

  -- the difference, place by place
  abbrev pub row_minus : List R → List R → List R
  row_minus [] b = []
  row_minus (x ∷ a) [] = []
  row_minus (x ∷ a) (y ∷ b) = add x (neg y) ∷ row_minus a b

  -- c times a row
  abbrev pub row_scale : R → List R → List R
  row_scale c row = map (mul c) row

  -- the combination c_1 r_1 + .. + c_s r_s of the rows r
  abbrev pub row_times : ℕ → List R → List (List R) → List R
  row_times width [] rows = zero_row width
  row_times width (c ∷ cs) [] = zero_row width
  row_times width (c ∷ cs) (row ∷ rows) = row_plus (row_scale c row) (row_times width cs rows)

  -- the coordinate x_i in l variables, i counted from 1
  abbrev pub unit_row : ℕ → ℕ → List R
  unit_row l i = map (λ k. if k == i then 1ᵣ else 0ᵣ) (one_to l)

  -- `a` is `c` times `b` for some value `c`
  abbrev pub IsMultiple : List R → List R → Type 0
  IsMultiple a b = (c : R) × IsValue c × (a ≡ row_scale c b)

-- whether `a` is `c` times `b` for some element `c` of the field
unfoldable pub is_multiple : {K : Type 0} → RingOf K → Numbering K → List K → List K → Bool
is_multiple ring numbers a b = list_any (λ c. same_row ring a (row_scale ring c b)) (elements numbers)
