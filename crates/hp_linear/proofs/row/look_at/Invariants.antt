use Rattle.std.proofs.Common.{◌<◌, ℕ, get_or}
use Rattle.hp_linear.proofs.row.look_at.Given as goal

abbrev pub invariant-loop-x : goal.invariant-loop-x
invariant-loop-x g l = (k : ℕ) (d : g.row.F.Denot) → k < l.x-index → g.F.Ring.ring.IsValue (get_or l.row k d)
