use Rattle.std.proofs.Common.{◌≡◌, ◌<◌, ℕ, get_or}
use Rattle.hp_linear.specs.Echelon.{PivotRow}
use Rattle.hp_linear.proofs.kernel.fill_columns.Given as goal

abbrev pub invariant-loop-k : goal.invariant-loop-k
invariant-loop-k g l = (h : ℕ) (d : PivotRow g.row.F.Denot) → h < l.k → (get_or l.kept h d).column ≡ h
