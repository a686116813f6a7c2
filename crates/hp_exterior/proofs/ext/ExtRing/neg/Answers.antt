use Rattle.std.proofs.Common.{map, ap, ◌∙◌}
use Rattle.hp_exterior.specs.Exterior.{ext_neg}
use Rattle.hp_exterior.proofs.TermSteps.{negatives_ext, negatives_value}
use Rattle.hp_exterior.proofs.ext.ExtRing.neg.Goals as goal

pub invariant_of-result : goal.invariant_of-result
invariant_of-result g c =
    negatives_ext g.met.F.Field.field_laws c.self.invariant
    (c.in_ok-negated.ensures ∙ ap (map (λ t. (t.0, g.F.Ring.ring.neg t.1))) c.as_slice.ensures.value)

pub returns-clause-value : goal.returns-clause-value
returns-clause-value g c =
    negatives_value g.met.F.Field.field_laws c.self.invariant
    (c.in_ok-negated.ensures ∙ ap (map (λ t. (t.0, g.F.Ring.ring.neg t.1))) c.as_slice.ensures.value)
    ∙ ap (ext_neg g.F.Ring.ring) c.self.view_is

pub returns-clause-answer : goal.returns-clause-answer
returns-clause-answer g c = invariant_of-result g c
