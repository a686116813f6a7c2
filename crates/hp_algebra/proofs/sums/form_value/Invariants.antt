use Rattle.std.proofs.Common.{◌≡◌, ◌≤◌, ◌<◌, ℕ, get_or, length, drop}
use Rattle.hp_algebra.specs.Ring.{dot_of}
use Rattle.hp_algebra.proofs.sums.form_value.Given as goal

abbrev pub invariant-loop-k : goal.invariant-loop-k
invariant-loop-k g l = record {
  point : (k : ℕ) (d : g.row.F.Denot) → l.k ≤ k → k < length l.point → g.F.Ring.ring.IsValue (get_or l.point k d);
  value : l.value ≡ dot_of g.F.Ring.ring (drop l.k l.form) (drop l.k l.point);
  answer : g.F.Ring.ring.IsValue l.value;
}
