use Rattle.std.proofs.Common.{◌≡◌, map, remove}
use Rattle.hp_minres.proofs.cancel.without_column.Given as goal

abbrev pub invariant-loop-row : goal.invariant-loop-row
invariant-loop-row g l = l.cut.items ≡ map (λ row. remove row l.r) l.yielded
