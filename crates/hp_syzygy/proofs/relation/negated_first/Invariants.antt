use Rattle.std.proofs.Common.{◌≡◌, take}
use Rattle.hp_syzygy.specs.VariableTests.{in_first}
use Rattle.hp_syzygy.proofs.KeptTerms.{kept_by}
use Rattle.hp_syzygy.proofs.relation.negated_first.Given as goal

-- the negatives of the terms so far
abbrev pub invariant-loop-k : goal.invariant-loop-k
invariant-loop-k g c = c.terms.items ≡ kept_by (λ t. in_first c.l t.0) (λ t. (t.0, g.F.Ring.ring.neg t.1)) (take c.k c.all)
