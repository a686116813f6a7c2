use Rattle.std.proofs.Common.{◌≡◌, ◌≤◌, All, length, drop}
use Rattle.hp_algebra.specs.Ring.{greatest_weight_of}
use Rattle.hp_algebra.proofs.values.greatest_weight.Given as goal

abbrev pub invariant-loop-k : goal.invariant-loop-k
invariant-loop-k g l = record {
  within : l.k ≤ length l.values;
  values : All g.R.Ring.ring.IsValue (drop l.k l.values);
  greatest : l.greatest ≡ greatest_weight_of g.R.Ring.ring (drop l.k l.values);
}
