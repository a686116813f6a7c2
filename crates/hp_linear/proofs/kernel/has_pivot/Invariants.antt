use Rattle.std.proofs.Common.{◌≢◌, ◌<◌, ℕ, get_or}
use Rattle.hp_linear.specs.Echelon.{PivotRow}
use Rattle.hp_linear.proofs.kernel.has_pivot.Given as goal

abbrev pub invariant-loop-p : goal.invariant-loop-p
invariant-loop-p g l = (h : ℕ) (d : PivotRow g.row.F.Denot) → h < l.p-index → (get_or l.kept h d).column ≢ l.column
