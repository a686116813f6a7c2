use Rattle.std.proofs.Common.{◌≡◌, take}
use Rattle.hp_saito.specs.Freeness.{vector_degrees}
use Rattle.hp_saito.proofs.generators.vector_degrees.Given as goal

abbrev pub invariant-loop-k : goal.invariant-loop-k
invariant-loop-k g l = l.degrees.items ≡ vector_degrees g.F.Ring.ring (take l.k l.vectors)
