use Rattle.std.proofs.Common.{◌≡◌, map}
use Rattle.hp_linear.specs.Echelon.{rows_of}
use Rattle.hp_linear.proofs.echelon.entries_of.Given as goal

abbrev pub invariant-loop-p : goal.invariant-loop-p
invariant-loop-p g l = map (λ row. row.items) l.rows.items ≡ rows_of g.F.Ring.ring l.yielded
