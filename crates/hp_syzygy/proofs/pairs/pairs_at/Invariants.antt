use Rattle.hp_syzygy.specs.FrameLevels.{ArePairsAt}
use Rattle.hp_syzygy.proofs.pairs.pairs_at.Given as goal

-- the pairs with the leads so far
abbrev pub invariant-loop-j : goal.invariant-loop-j
invariant-loop-j l = ArePairsAt l.leads l.ranks l.i l.j l.kept.items
