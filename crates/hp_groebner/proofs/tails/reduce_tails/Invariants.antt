use Rattle.std.proofs.Common.{◌≡◌, ◌+◌, ◌<◌, length}
use Rattle.hp_groebner.specs.PairQueues.{bucket}
use Rattle.hp_groebner.specs.Runs.{AreReducedAt, IsRun, held, job}
use Rattle.hp_groebner.proofs.tails.reduce_tails.Given as goal

abbrev pub invariant-loop-place : goal.invariant-loop-place
invariant-loop-place g l = record {
  run : IsRun (job g.F.Ring.ring g.F.Field.inverse l.setting l.gens) l.state l.d (length l.gens) (length (bucket l.state.queue l.d)) (l.d + 1);
  many : length l.state.members ≡ l.many;
  tails : AreReducedAt (held l.state) (λ i. i < l.place);
}
