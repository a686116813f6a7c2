-- Hyperplane arrangements over a finite field, and the points off their hyperplanes.
use Rattle.std.specs.Prelude.{◌≡◌, ◌≢◌, ◌⊎◌, ℕ, ◌+◌, ◌-◌, ◌<◌, ◌≤◌, Bool, IsFalse, List, [], ◌∷◌, ◌++◌, map, take, length, All, slice_index_or, slice_get, Some}
use Rattle.hp_algebra.specs.Ring.{RingOf, Numbering, dot_of}
use Rattle.hp_lists.specs.Lists.{one_to, list_all}
use Rattle.hp_algebra.specs.Rows.{IsRow, IsMultiple, entry, is_zero_row}

-- the greatest dimension, and the greatest number of forms
abbrev pub max_dim : ℕ
max_dim = 10

abbrev pub max_forms : ℕ
max_forms = 64

-- A dimension, and a list of rows: each has the coefficients of a linear form, and behind them a constant. A row that ends before it has constant zero.
pub record Arrangement (K : Type 0) : Type 0 where
  pub dim : ℕ
  pub forms : List (List K)

-- row i, counted from 1
abbrev pub form : {K : Type 0} → Arrangement K → ℕ → List K
form arr i = slice_index_or arr.forms (i - 1) []

-- the numbers of the hyperplanes
abbrev pub indices : {K : Type 0} → Arrangement K → List ℕ
indices arr = one_to (length arr.forms)

module _ {K : Type 0} (ring : RingOf K) where
  -- The value of row i at a point: that of its linear form, plus its constant. A row without a constant ends before the 1.
  abbrev pub value : Arrangement K → ℕ → List K → K
  value arr i x = dot_of ring (form arr i) (x ++ ring.one ∷ [])

  -- whether the point lies in the hyperplane H_i
  abbrev pub lies_in : Arrangement K → ℕ → List K → Bool
  lies_in arr i x = ring.is_zero (value arr i x)

  -- the point lies in no hyperplane
  abbrev pub LiesOff : Arrangement K → List K → Type 0
  LiesOff arr x = All (λ i. IsFalse (lies_in arr i x)) (indices arr)

  -- every constant is zero
  abbrev pub is_central : Arrangement K → Bool
  is_central arr = list_all (λ row. ring.is_zero (entry ring row arr.dim)) arr.forms

  -- its forms, without the constants
  abbrev pub linear_part : Arrangement K → Arrangement K
  linear_part arr = record { dim = arr.dim; forms = map (take arr.dim) arr.forms }

  -- the forms of a central arrangement, with constants zero
  abbrev pub with_constants : Arrangement K → Arrangement K
  with_constants arr = record { dim = arr.dim; forms = map (λ form. form ++ ring.zero ∷ []) arr.forms }

-- x comes before y in the lexicographic order of lists, where elements go by their places
abbrev pub ComesBefore : {K : Type 0} → Numbering K → List K → List K → Type 0
ComesBefore numbers x [] = ⊥
ComesBefore numbers [] (b ∷ y) = Unit {0}
ComesBefore numbers (a ∷ x) (b ∷ y) = (numbers.place a < numbers.place b) ⊎ ((a ≡ b) × ComesBefore numbers x y)

module _ {K : Type 0} (ring : RingOf K) (numbers : Numbering K) where
  -- A central arrangement, whose rows end before the constants: the dimension is 1 to the greatest; at most so many forms, and fewer than the field has elements; no form is zero, and none is a multiple of another
  pub record IsArrangement (arr : Arrangement K) : Type 0 where
    pub dim_low : 1 ≤ arr.dim
    pub dim_high : arr.dim ≤ max_dim
    pub rows : All (IsRow ring arr.dim) arr.forms
    pub few_forms : length arr.forms ≤ max_forms
    pub below_order : length arr.forms < numbers.order
    pub no_zero : All (λ a. IsFalse (is_zero_row ring a)) arr.forms
    pub no_multiple : (i j : ℕ) (a b : List K) → i ≢ j → slice_get arr.forms i ≡ Some a → slice_get arr.forms j ≡ Some b → ¬ (IsMultiple ring a b)

  -- With constants: the dimension is 1 to the greatest; at most so many rows, and fewer than the field has elements; no row has all coefficients zero, and none is a multiple of another
  pub record IsAffineArrangement (arr : Arrangement K) : Type 0 where
    pub dim_low : 1 ≤ arr.dim
    pub dim_high : arr.dim ≤ max_dim
    pub rows : All (IsRow ring (arr.dim + 1)) arr.forms
    pub few_forms : length arr.forms ≤ max_forms
    pub below_order : length arr.forms < numbers.order
    pub no_zero : All (λ a. IsFalse (is_zero_row ring (take arr.dim a))) arr.forms
    pub no_multiple : (i j : ℕ) (a b : List K) → i ≢ j → slice_get arr.forms i ≡ Some a → slice_get arr.forms j ≡ Some b → ¬ (IsMultiple ring a b)

  -- the lexicographically least point that lies in no hyperplane
  pub record IsLeastPointOff (arr : Arrangement K) (x : List K) : Type 0 where
    pub point : IsRow ring arr.dim x
    pub off : LiesOff ring arr x
    pub least : (y : List K) → IsRow ring arr.dim y → LiesOff ring arr y → ¬ (ComesBefore numbers y x)

  -- there is such a point
  abbrev pub HasLeastPointOff : Arrangement K → Type 0
  HasLeastPointOff arr = (x : List K) × IsLeastPointOff arr x
