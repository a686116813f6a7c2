use Rattle.std.proofs.Common.{◌≡◌, ◌≤◌, All, length, drop}
use Rattle.hp_algebra.specs.Ring.{dot_of}
use Rattle.hp_algebra.proofs.sums.dot.Given as goal

abbrev pub invariant-loop-k : goal.invariant-loop-k
invariant-loop-k g l = record {
  within : l.k ≤ length l.a;
  left : All g.R.Ring.ring.IsValue (drop l.k l.a);
  right : All g.R.Ring.ring.IsValue (drop l.k l.b);
  value : l.sum ≡ dot_of g.R.Ring.ring (drop l.k l.a) (drop l.k l.b);
  answer : g.R.Ring.ring.IsValue l.sum;
}
