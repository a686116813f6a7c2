use Rattle.std.proofs.Common.{◌≡◌}
use Rattle.hp_lists.specs.Lists.{below}
use Rattle.hp_minres.proofs.order.places.Given as goal

abbrev pub invariant-loop-k : goal.invariant-loop-k
invariant-loop-k l = l.numbers.items ≡ below l.k
