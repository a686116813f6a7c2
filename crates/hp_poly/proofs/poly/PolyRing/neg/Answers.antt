use Rattle.std.proofs.Common.{map, ap, ◌∙◌}
use Rattle.hp_poly.specs.Polynomials.{poly_neg}
use Rattle.hp_poly.proofs.TermMultiples.{negatives_poly, negatives_value}
use Rattle.hp_poly.proofs.poly.PolyRing.neg.Goals as goal

pub invariant_of-result : goal.invariant_of-result
invariant_of-result g c =
    negatives_poly g.met.F.Field.field_laws c.self.invariant
    (c.in_ok-negated.ensures ∙ ap (map (λ t. (t.0, g.F.Ring.ring.neg t.1))) c.as_slice.ensures.value)

pub returns-clause-value : goal.returns-clause-value
returns-clause-value g c =
    negatives_value g.met.F.Field.field_laws c.self.invariant
    (c.in_ok-negated.ensures ∙ ap (map (λ t. (t.0, g.F.Ring.ring.neg t.1))) c.as_slice.ensures.value)
    ∙ ap (poly_neg g.F.Ring.ring) c.self.view_is

pub returns-clause-answer : goal.returns-clause-answer
returns-clause-answer g c = invariant_of-result g c
