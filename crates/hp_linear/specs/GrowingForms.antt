-- A reduced row echelon form to which rows are added one at a time.
use Rattle.std.specs.Prelude.{◌≡◌, ℕ, ◌<◌, List, length, All, slice_index_or}
use Rattle.hp_algebra.specs.Ring.{RingOf}
use Rattle.hp_algebra.specs.Rows.{IsRow}
use Rattle.hp_linear.specs.Spaces.{HaveSameSpan}
use Rattle.hp_linear.specs.Echelon.{PivotRow, rows_of}

-- A number of columns, and rows with pivots.
pub record GrowingForm (R : Type 0) : Type 0 where
  pub cols : ℕ
  pub kept : List (PivotRow R)

-- Each column has a pivot.
pub record IsFull {R : Type 0} (f : GrowingForm R) : Type 0 where
  pub many : length f.kept ≡ f.cols
  pub in_order : (k : ℕ) (p : PivotRow R) → k < f.cols → (slice_index_or f.kept k p).column ≡ k

-- It is the form of these rows: they have the span of its rows.
pub record IsFormOf {R : Type 0} (ring : RingOf R) (f : GrowingForm R) (rows : List (List R)) : Type 0 where
  pub each : All (IsRow ring f.cols) rows
  pub same_span : HaveSameSpan ring f.cols rows (rows_of ring f.kept)
