-- Matrices over a field: rank, reduced row echelon form, solutions, kernel and inverse.
use Rattle.std.specs.Prelude.{◌≡◌, ℕ, ◌+◌, ◌-◌, ◌<◌, ◌≤◌, ◌==◌, if◌then◌else◌, List, [], ◌∷◌, ◌++◌, map, length, All, slice_index_or, slice_get, Some}
use Rattle.std.specs.List.Sorted.{IsStrictlyIncreasing}
use Rattle.hp_algebra.specs.Ring.{RingOf, dot_of}
use Rattle.hp_lists.specs.Lists.{one_to}
use Rattle.hp_algebra.specs.Rows.{IsRow, entry, zero_row, unit_row}
use Rattle.hp_linear.specs.Spaces.{IsCombination, HaveSameSpan, HasDimension}

-- A matrix: its number of columns, and its rows.
pub record Matrix (R : Type 0) : Type 0 where
  pub cols : ℕ
  pub rows : List (List R)

module _ {R : Type 0} (ring : RingOf R) where
  -- each row has as many entries as there are columns, and they are values
  abbrev pub IsMatrix : Matrix R → Type 0
  IsMatrix m = All (IsRow ring m.cols) m.rows

  -- the entry in row r and column c, both counted from 1
  abbrev pub matrix_entry : Matrix R → ℕ → ℕ → R
  matrix_entry m r c = entry ring (slice_index_or m.rows (r - 1) []) (c - 1)

  -- v is a combination of the rows
  abbrev pub IsInRowSpace : Matrix R → List R → Type 0
  IsInRowSpace m v = IsCombination ring m.cols m.rows v

  -- the rank is the dimension of the row space
  abbrev pub IsRank : Matrix R → ℕ → Type 0
  IsRank m r = HasDimension ring m.cols (IsInRowSpace m) r

  -- e is the reduced row echelon form of m without zero rows. In row k the column pivots[k], counted from 1, is the first that is not zero; it holds 1, and the other rows are 0 there; the pivots rise.
  pub record IsEchelonForm (m e : Matrix R) (pivots : List ℕ) : Type 0 where
    pub matrix : IsMatrix e
    pub cols : e.cols ≡ m.cols
    pub same_space : HaveSameSpan ring m.cols m.rows e.rows
    pub one_each : length pivots ≡ length e.rows
    pub rising : IsStrictlyIncreasing pivots
    pub in_range : All (λ c. (1 ≤ c) × (c ≤ e.cols)) pivots
    pub first : (k j c : ℕ) (row : List R) → slice_get e.rows k ≡ Some row → slice_get pivots k ≡ Some c → 1 ≤ j → j < c
        → entry ring row (j - 1) ≡ ring.zero
    pub unit : (k h c : ℕ) (row : List R) → slice_get e.rows h ≡ Some row → slice_get pivots k ≡ Some c
        → entry ring row (c - 1) ≡ (if h == k then ring.one else ring.zero)

  -- M c for a column c
  abbrev pub matrix_times : Matrix R → List R → List R
  matrix_times m c = map (λ row. dot_of ring row c) m.rows

  -- M c = b
  abbrev pub IsSolution : Matrix R → List R → List R → Type 0
  IsSolution m b c = IsRow ring m.cols c × (matrix_times m c ≡ b)

  -- M c = 0
  abbrev pub IsKernelMember : Matrix R → List R → Type 0
  IsKernelMember m c = IsSolution m (zero_row ring (length m.rows)) c

  -- column c, counted from 1
  abbrev pub column : Matrix R → ℕ → List R
  column m c = map (λ row. entry ring row (c - 1)) m.rows

  -- the product: rows times columns
  abbrev pub matrix_product : Matrix R → Matrix R → Matrix R
  matrix_product m n = record { cols = n.cols; rows = map (λ row. map (λ c. dot_of ring row (column n c)) (one_to n.cols)) m.rows }

  abbrev pub identity_matrix : ℕ → Matrix R
  identity_matrix n = record { cols = n; rows = map (unit_row ring n) (one_to n) }

  -- rows side by side
  abbrev pub joined : List (List R) → List (List R) → List (List R)
  joined [] others = []
  joined (row ∷ rows) [] = []
  joined (row ∷ rows) (other ∷ others) = (row ++ other) ∷ joined rows others

  -- m with b as one more column
  abbrev pub with_column : Matrix R → List R → Matrix R
  with_column m b = record { cols = m.cols + 1; rows = joined m.rows (map (λ x. x ∷ []) b) }

  -- m with the columns of the identity matrix
  abbrev pub with_identity : Matrix R → Matrix R
  with_identity m = record { cols = m.cols + m.cols; rows = joined m.rows (map (unit_row ring m.cols) (one_to m.cols)) }

  -- n is the inverse of the square matrix m, on both sides
  pub record IsInverse (m n : Matrix R) : Type 0 where
    pub matrix : IsMatrix n
    pub square : (n.cols ≡ m.cols) × (length n.rows ≡ length m.rows)
    pub right : matrix_product m n ≡ identity_matrix m.cols
    pub left : matrix_product n m ≡ identity_matrix m.cols
