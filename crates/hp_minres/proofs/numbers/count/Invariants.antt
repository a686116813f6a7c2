use Rattle.std.proofs.Common.{◌≡◌, ◌≤◌, ◌+◌, ◌==◌, length, drop}
use Rattle.hp_module.specs.Divisions.{tally}
use Rattle.hp_minres.proofs.numbers.count.Given as goal

abbrev pub invariant-loop-k : goal.invariant-loop-k
invariant-loop-k l = record {
  within : l.many + l.k ≤ length l.degrees;
  value : l.many ≡ tally (λ e. e == l.d) (drop l.k l.degrees);
}
