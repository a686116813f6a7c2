use Rattle.std.proofs.Common.{◌≡◌, ℕ, length, []}
use Rattle.hp_groebner.specs.NewPairs.{pairs_of}
use Rattle.hp_groebner.proofs.queue.no_pairs.Given as goal

abbrev pub invariant-loop-e : goal.invariant-loop-e
invariant-loop-e l = record {
  long : length l.due.items ≡ l._e;
  empty : (e : ℕ) → pairs_of l.due.items e ≡ [];
}
