use Rattle.std.proofs.Common.{ℕ, ◌<◌, IsFalse}
use Rattle.hp_algebra.specs.Rows.{is_zero_row}
use Rattle.hp_circuits.specs.NbcSearch.{row_at, rows_below}
use Rattle.hp_circuits.proofs.broken.first_zero.Given as goal

-- none of the rows so far became zero
abbrev pub invariant-loop-k : goal.invariant-loop-k
invariant-loop-k g l =
    let ring = g.K.Ring.ring in
    (j : ℕ) → j < l.k → IsFalse (is_zero_row ring (row_at (rows_below ring g.K.Field.inverse l.m l.rows) j))
