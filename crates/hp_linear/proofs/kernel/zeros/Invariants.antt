use Rattle.std.proofs.Common.{◌≡◌, replicate}
use Rattle.hp_linear.proofs.kernel.zeros.Given as goal

abbrev pub invariant-loop : goal.invariant-loop
invariant-loop g l = l.row.items ≡ replicate l.counter g.F.Ring.ring.zero
