use Rattle.std.proofs.Common.{◌<◌, ℕ, get_or}
use Rattle.hp_linear.specs.Echelon.{PivotRow}
use Rattle.hp_linear.proofs.echelon.place.Given as goal

abbrev pub invariant-loop-k : goal.invariant-loop-k
invariant-loop-k g l = (k : ℕ) (p : PivotRow g.row.F.Denot) → k < l.k → (get_or l.kept k p).column < l.column
