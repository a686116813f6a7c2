use Rattle.std.proofs.Common.{◌<◌, ℕ, All, List, get_or}
use Rattle.hp_complex.proofs.matrix.look_at.Given as goal

abbrev pub invariant-loop-row : goal.invariant-loop-row
invariant-loop-row g l = (k : ℕ) (d : List g.row.R.Denot) → k < l.row-index → All g.R.Ring.ring.IsValue (get_or l.rows k d)
