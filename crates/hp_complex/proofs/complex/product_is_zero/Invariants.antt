use Rattle.std.proofs.Common.{◌≡◌, ◌<◌, ℕ, List, get_or}
use Rattle.hp_algebra.specs.Rows.{zero_row}
use Rattle.hp_complex.specs.Complexes.{times_matrix}
use Rattle.hp_complex.proofs.complex.product_is_zero.Given as goal

-- the rows so far times m are zero
abbrev pub invariant-loop-k : goal.invariant-loop-k
invariant-loop-k g l =
    let ring = g.R.Ring.ring in
    (h : ℕ) (d : List g.row.R.Denot) → h < l.k → times_matrix ring (get_or l.n.rows h d) l.m ≡ zero_row ring l.m.cols
