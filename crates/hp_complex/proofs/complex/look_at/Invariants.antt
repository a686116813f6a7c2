use Rattle.std.proofs.Common.{◌<◌, ℕ, get_or}
use Rattle.hp_linear.specs.Matrices.{Matrix, IsMatrix}
use Rattle.hp_complex.proofs.complex.look_at.Given as goal

abbrev pub invariant-loop-map : goal.invariant-loop-map
invariant-loop-map g l = (k : ℕ) (d : Matrix g.row.R.Denot) → k < l.map-index → IsMatrix g.R.Ring.ring (get_or l.maps k d)
