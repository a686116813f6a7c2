use Rattle.hp_der.specs.CoveringPairs.{AreCoveringPairs}
use Rattle.hp_der.proofs.cover.covering_pairs.Given as goal

abbrev pub invariant-loop-i : goal.invariant-loop-i
invariant-loop-i l = AreCoveringPairs l.leads l.i l.pairs.items
