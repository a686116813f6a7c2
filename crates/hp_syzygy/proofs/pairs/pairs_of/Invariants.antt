use Rattle.hp_syzygy.proofs.KeptPairs.{ArePairsBelow}
use Rattle.hp_syzygy.proofs.pairs.pairs_of.Given as goal

-- the pairs of the later leads so far
abbrev pub invariant-loop-i : goal.invariant-loop-i
invariant-loop-i l = ArePairsBelow l.leads l.ranks l.i l.pairs.items
