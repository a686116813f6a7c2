use Rattle.std.proofs.Common.{◌<◌, ℕ, All, Vec, Global, get_or}
use Rattle.hp_linear.proofs.matrix.Matrix.new.Given as goal

abbrev pub invariant-loop-row : goal.invariant-loop-row
invariant-loop-row g l = (k : ℕ) (d : Vec g.row.F.Denot Global) → k < l.row-index → All g.F.Ring.ring.IsValue (get_or l.row-items k d).items
