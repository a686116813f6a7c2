use Rattle.std.proofs.Common.{◌≡◌, ◌≤◌, ◌+◌, ◌==◌, map}
use Rattle.hp_lists.specs.Lists.{below}
use Rattle.hp_module.specs.Divisions.{tally}
use Rattle.hp_minres.proofs.numbers.counts.Given as goal

abbrev pub invariant-loop-d : goal.invariant-loop-d
invariant-loop-d l = record {
  within : l.d ≤ l.most + 1;
  value : l.numbers.items ≡ map (λ d. tally (λ e. e == d) l.fn.degrees) (below l.d);
}
