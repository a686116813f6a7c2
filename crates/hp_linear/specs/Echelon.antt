-- Rows in reduced echelon form, each with the column of its pivot.
use Rattle.std.specs.Prelude.{◌≡◌, ◌≢◌, ℕ, ◌<◌, List, map, length, Contains}
use Rattle.hp_algebra.specs.Ring.{RingOf}
use Rattle.hp_lists.specs.Lists.{Ordered}
use Rattle.hp_algebra.specs.Rows.{IsRow, entry, row_plus, row_scale}
use Rattle.hp_linear.specs.Spaces.{IsCombination}

-- A row, and the column of its first entry other than zero, counted from 0.
pub record PivotRow (R : Type 0) : Type 0 where
  pub column : ℕ
  pub entries : List R

module _ {R : Type 0} (ring : RingOf R) where
  abbrev pub rows_of : List (PivotRow R) → List (List R)
  rows_of kept = map (λ p. p.entries) kept

  -- the pivot holds 1, and the entries before it are zero
  pub record IsPivotRow (width : ℕ) (p : PivotRow R) : Type 0 where
    pub row : IsRow ring width p.entries
    pub inside : p.column < width
    pub first : (j : ℕ) → j < p.column → entry ring p.entries j ≡ ring.zero
    pub one : entry ring p.entries p.column ≡ ring.one

  -- the pivot of q is to the right of that of p, and its column is zero in p
  pub record IsLeftOf (p q : PivotRow R) : Type 0 where
    pub left : p.column < q.column
    pub clear : entry ring p.entries q.column ≡ ring.zero

  -- The rows are reduced: the pivots rise, and each is the one entry of its column that is not zero.
  pub record IsReduced (width : ℕ) (kept : List (PivotRow R)) : Type 0 where
    pub each : (p : PivotRow R) → Contains kept p → IsPivotRow width p
    pub ordered : Ordered IsLeftOf kept

  -- row is old plus a combination of the kept rows, and zero in each column of a pivot
  pub record IsReductionOf (width : ℕ) (kept : List (PivotRow R)) (old row : List R) : Type 0 where
    pub is_row : IsRow ring width row
    pub same : (v : List R) × IsCombination ring width (rows_of kept) v × (row ≡ row_plus ring old v)
    pub zeros : (p : PivotRow R) → Contains kept p → entry ring row p.column ≡ ring.zero

  -- p is the multiple of the row whose first entry other than zero is 1
  pub record IsMonic (inverse : R → R) (row : List R) (p : PivotRow R) : Type 0 where
    pub inside : p.column < length row
    pub nonzero : entry ring row p.column ≢ ring.zero
    pub first : (j : ℕ) → j < p.column → entry ring row j ≡ ring.zero
    pub entries : p.entries ≡ row_scale ring (inverse (entry ring row p.column)) row

  -- a row plus the multiple of p that makes its entry in the column of p zero
  abbrev pub cleared_row : PivotRow R → List R → List R
  cleared_row p row = row_plus ring row (row_scale ring (ring.neg (entry ring row p.column)) p.entries)

  abbrev pub cleared : PivotRow R → PivotRow R → PivotRow R
  cleared p q = record { column = q.column; entries = cleared_row p q.entries }

  -- c is the solution of the kept rows with 1 at a free column and 0 at the other free columns: at each pivot it is minus the entry in the free column
  pub record IsFreeSolution (width : ℕ) (kept : List (PivotRow R)) (free : ℕ) (c : List R) : Type 0 where
    pub is_row : IsRow ring width c
    pub one : entry ring c free ≡ ring.one
    pub at_pivots : (p : PivotRow R) → Contains kept p → entry ring c p.column ≡ ring.neg (entry ring p.entries free)
    pub elsewhere : (j : ℕ) → j < width → j ≢ free → ((p : PivotRow R) → Contains kept p → p.column ≢ j)
        → entry ring c j ≡ ring.zero
