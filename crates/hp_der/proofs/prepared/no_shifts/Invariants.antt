use Rattle.std.proofs.Common.{◌≡◌, replicate}
use Rattle.hp_der.proofs.prepared.no_shifts.Given as goal

abbrev pub invariant-loop : goal.invariant-loop
invariant-loop l = l.shifts.items ≡ replicate l.counter 0
