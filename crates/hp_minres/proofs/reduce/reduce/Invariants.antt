use Rattle.hp_minres.proofs.ReduceLoops.{AreReducedUpTo}
use Rattle.hp_minres.proofs.reduce.reduce.Given as goal

abbrev pub invariant-loop-k : goal.invariant-loop-k
invariant-loop-k g l =
    AreReducedUpTo g.met.F.Field.field_laws l.fn.maps.items l.fn.degrees.items l.k l.maps.items l.degrees.items
