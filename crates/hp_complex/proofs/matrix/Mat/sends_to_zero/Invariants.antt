use Rattle.std.proofs.Common.{◌≡◌, ◌<◌, ℕ}
use Rattle.hp_complex.proofs.MatrixProducts.{column_sum}
use Rattle.hp_complex.proofs.matrix.Mat.sends_to_zero.Given as goal

-- the entries so far are zero
abbrev pub invariant-loop-j : goal.invariant-loop-j
invariant-loop-j g l =
    let ring = g.R.Ring.ring in
    (h : ℕ) → h < l.j → column_sum ring l.c l.self.rows h 0 ≡ ring.zero
