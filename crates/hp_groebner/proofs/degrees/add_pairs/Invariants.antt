use Rattle.std.proofs.Common.{◌≡◌, ◌+◌, length}
use Rattle.hp_groebner.specs.PairQueues.{bucket}
use Rattle.hp_groebner.specs.Runs.{IsRun, job}
use Rattle.hp_groebner.proofs.degrees.add_pairs.Given as goal

abbrev pub invariant-loop-k : goal.invariant-loop-k
invariant-loop-k g l = record {
  run : IsRun (job g.F.Ring.ring g.F.Field.inverse l.setting l.gens) l.state l.d (length l.gens) l.k (l.d + 1);
  many : length (bucket l.state.queue l.d) ≡ l.many;
}
