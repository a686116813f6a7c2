use Rattle.std.proofs.Common.{◌≡◌, map, take, drop}
use Rattle.hp_linear.proofs.kernel.rests_of.Given as goal

abbrev pub invariant-loop-p : goal.invariant-loop-p
invariant-loop-p g l = map (λ row. row.items) l.rows.items ≡ map (λ p. drop l.from p.entries) (take l.p-index l.kept)
