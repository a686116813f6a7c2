use Rattle.std.proofs.Common.{◌≤◌}
use Rattle.hp_minres.specs.Reductions.{AreSteps}
use Rattle.hp_minres.proofs.reduce.reduce_map.Given as goal

abbrev pub invariant-loop-c : goal.invariant-loop-c
invariant-loop-c g l = record {
  within : l.c ≤ l.many;
  steps : AreSteps g.F.Ring.ring l.fn.maps.items l.fn.degrees.items l.k l.many l.maps.items l.degrees.items l.k l.c;
}
