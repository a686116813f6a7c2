use Rattle.std.proofs.Common.{◌≡◌}
use Rattle.hp_lists.specs.Lists.{one_to}
use Rattle.hp_circuits.specs.CircuitSteps.{all_later}
use Rattle.hp_circuits.proofs.circuit_search.all_forms.Given as goal

abbrev pub invariant-loop-k : goal.invariant-loop-k
invariant-loop-k g l = l.later.items ≡ all_later l.arr (one_to l.k)
