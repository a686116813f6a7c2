use Rattle.std.proofs.Common.{ap, sym, ◌∙◌}
use Rattle.hp_poly.specs.Polynomials.{poly_degree}
use Rattle.hp_poly.proofs.TermMultiples.{first_degree}
use Rattle.hp_poly.proofs.poly.PolyRing.weight.Goals as goal

pub returns-in-Some-clause-value : goal.returns-in-Some-clause-value
returns-in-Some-clause-value g c =
    c.degree.ensures.value
    ∙ sym (first_degree g.met.F.Field.field_laws c.self.invariant (sym c.deref.ensures.value ∙ c.in-Some.ensures.cases.0))
    ∙ ap (poly_degree g.F.Ring.ring) c.self.view_is
