use Rattle.std.proofs.Common.{◌≡◌, take}
use Rattle.hp_syzygy.specs.VariableTests.{negated_firsts}
use Rattle.hp_syzygy.proofs.relation.negated.Given as goal

-- the entries so far
abbrev pub invariant-loop-k : goal.invariant-loop-k
invariant-loop-k g c = c.negatives.items ≡ negated_firsts g.F.Ring.ring c.l (take c.k c.entries)
