use Rattle.hp_minres.proofs.ReduceLoops.{AreListing}
use Rattle.hp_minres.proofs.finish.matrices.Given as goal

abbrev pub invariant-loop-k : goal.invariant-loop-k
invariant-loop-k g l = AreListing l.fn.width l.fn.maps.items l.k l.columns l.maps.items l.mats.items
