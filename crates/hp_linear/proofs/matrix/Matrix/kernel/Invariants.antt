use Rattle.std.proofs.Common.{◌≡◌, ◌+◌, List, length, map}
use Rattle.hp_linear.specs.Echelon.{PivotRow, rows_of}
use Rattle.hp_linear.proofs.Kernels.{AreFreeSolutions, pivots_below}
use Rattle.hp_linear.proofs.matrix.Matrix.kernel.Given as goal

abbrev pub invariant-loop-free : goal.invariant-loop-free
invariant-loop-free g l =
    let ring = g.F.Ring.ring in
    (made : List (PivotRow g.row.F.Denot))
    × (map (λ c. c.items) l.basis.items ≡ rows_of ring made)
    × AreFreeSolutions g.met.F.Ring.ring_laws l.self.cols l.kept.items l.free made
    × (length made + pivots_below g.met.F.Ring.ring_laws l.free l.kept.items ≡ l.free)
