use Rattle.std.proofs.Common.{◌≡◌, ap, arith, sym, ◌∙◌}
use Rattle.hp_mono.specs.Monomials.{degree}
use Rattle.hp_poly.specs.Polynomials.{poly_degree}
use Rattle.hp_poly.proofs.TermMultiples.{first_degree}
use Rattle.hp_poly.proofs.poly.Poly.degree.Goals as goal

pub returns-in-Some-clause-some : goal.returns-in-Some-clause-some
returns-in-Some-clause-some g c =
    c.degree.ensures.value
    ∙ sym (first_degree g.met.F.Field.field_laws c.self.invariant (sym c.deref.ensures.value ∙ c.in-Some.ensures.cases.0))
    ∙ ap (poly_degree g.F.Ring.ring) c.self.view_is

pub returns-in-Some-clause-most : goal.returns-in-Some-clause-most
returns-in-Some-clause-most g c =
    let e : degree c.in-Some.t.now.0 ≡ poly_degree g.F.Ring.ring c.args.self.now =
    sym c.degree.ensures.value ∙ returns-in-Some-clause-some g c in
    omega (arith, e, c.degree.ensures.of.degree_most)
