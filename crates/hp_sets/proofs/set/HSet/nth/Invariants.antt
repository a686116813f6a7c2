use Rattle.std.proofs.Common.{◌≡◌, drop}
use Rattle.hp_sets.proofs.set.HSet.nth.Given as goal

abbrev pub invariant-loop : goal.invariant-loop
invariant-loop l = l.rest ≡ drop l.counter l.fn.self
