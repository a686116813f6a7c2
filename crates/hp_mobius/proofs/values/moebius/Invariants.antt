use Rattle.hp_mobius.specs.Partial.{IsAddedUp}
use Rattle.hp_mobius.proofs.values.moebius.Given as goal

-- the flats so far have their values, and their covers their shares
abbrev pub invariant-loop-k : goal.invariant-loop-k
invariant-loop-k g l = IsAddedUp g.K.Ring.ring g.K.FiniteField.numbers l.aff l.k l.sums l.values.items
