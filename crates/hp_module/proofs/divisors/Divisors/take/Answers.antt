use Rattle.std.proofs.Common.{◌≡◌, ◌≤◌, ◌+◌, ◌∙◌, [], get_or, ap, sym, subst}
use Rattle.hp_mono.specs.Monomials.{degree, max_degree}
use Rattle.hp_poly.specs.Polynomials.{poly_degree, term_poly}
use Rattle.hp_module.specs.Vectors.{vector_plus, vector_scale}
use Rattle.hp_module.specs.FallingTerms.{AreFalling, vector_of}
use Rattle.hp_module.proofs.DivisorLists.{divisor-falling, factor-nonzero, lead-nonzero, multiple-degrees, taken}
use Rattle.hp_module.proofs.divisors.Divisors.take.Goals as goal

pub add_multiple-requires-clause-parts : goal.add_multiple-requires-clause-parts
add_multiple-requires-clause-parts g c =
    let ring = g.F.Ring.ring in
    let cmp = g.O.TermOrder.order c.args.order.now in
    let width = g.O.TermOrder.components c.args.order.now in
    let order = g.met.O.TermOrder.lawful c.args.order.now c.width-width.ensures.of in
    let field = g.met.F.Field.field_laws in
    let shifts = c.args.grading.now.shifts in
    let place = c.args.place in
    let m = c.index-member.result.now in
    let q = c.args.quotient.now in
    let iq = c.degree-degree.ensures.of.exponents in
    let here : get_or c.args.self.now.members place m ≡ m =
    ap (λ d. get_or d.members place m) (sym c.self.view_is) ∙ sym c.index-member.ensures in
    let parts : m.parts ≡ c.as_slice-parts.result.now = ap (λ d. d.parts) (sym c.member.view_is) ∙ sym c.as_slice-parts.ensures.value in
    let vc = c.times-factor.ensures.left in
    let f = c.times-factor.result in
    let f_is : f ≡ ring.mul c.args.c m.inverse = c.times-factor.ensures.value ∙ ap (ring.mul c.args.c) (ap (λ d. d.inverse) c.member.view_is) in
    subst (AreFalling ring cmp width) parts (divisor-falling field cmp width order shifts c.requires.divisors c.requires.led place m c.requires.place here)

pub add_multiple-requires-clause-nonzero : goal.add_multiple-requires-clause-nonzero
add_multiple-requires-clause-nonzero g c =
    let ring = g.F.Ring.ring in
    let cmp = g.O.TermOrder.order c.args.order.now in
    let width = g.O.TermOrder.components c.args.order.now in
    let order = g.met.O.TermOrder.lawful c.args.order.now c.width-width.ensures.of in
    let field = g.met.F.Field.field_laws in
    let shifts = c.args.grading.now.shifts in
    let place = c.args.place in
    let m = c.index-member.result.now in
    let q = c.args.quotient.now in
    let iq = c.degree-degree.ensures.of.exponents in
    let here : get_or c.args.self.now.members place m ≡ m =
    ap (λ d. get_or d.members place m) (sym c.self.view_is) ∙ sym c.index-member.ensures in
    let parts : m.parts ≡ c.as_slice-parts.result.now = ap (λ d. d.parts) (sym c.member.view_is) ∙ sym c.as_slice-parts.ensures.value in
    let vc = c.times-factor.ensures.left in
    let f = c.times-factor.result in
    let f_is : f ≡ ring.mul c.args.c m.inverse = c.times-factor.ensures.value ∙ ap (ring.mul c.args.c) (ap (λ d. d.inverse) c.member.view_is) in
    λ z. factor-nonzero field cmp width order shifts c.requires.divisors c.requires.led place m c.requires.place here c.args.c f vc f_is
    (lead-nonzero field cmp width order shifts c.requires.rest c.requires.lead) (sym c.negate-negative.ensures.value ∙ z)

pub add_multiple-requires-clause-degrees : goal.add_multiple-requires-clause-degrees
add_multiple-requires-clause-degrees g c =
    let ring = g.F.Ring.ring in
    let cmp = g.O.TermOrder.order c.args.order.now in
    let width = g.O.TermOrder.components c.args.order.now in
    let order = g.met.O.TermOrder.lawful c.args.order.now c.width-width.ensures.of in
    let field = g.met.F.Field.field_laws in
    let shifts = c.args.grading.now.shifts in
    let place = c.args.place in
    let m = c.index-member.result.now in
    let q = c.args.quotient.now in
    let iq = c.degree-degree.ensures.of.exponents in
    let here : get_or c.args.self.now.members place m ≡ m =
    ap (λ d. get_or d.members place m) (sym c.self.view_is) ∙ sym c.index-member.ensures in
    let parts : m.parts ≡ c.as_slice-parts.result.now = ap (λ d. d.parts) (sym c.member.view_is) ∙ sym c.as_slice-parts.ensures.value in
    let vc = c.times-factor.ensures.left in
    let f = c.times-factor.result in
    let f_is : f ≡ ring.mul c.args.c m.inverse = c.times-factor.ensures.value ∙ ap (ring.mul c.args.c) (ap (λ d. d.inverse) c.member.view_is) in
    λ j l. subst (λ p. degree q + poly_degree ring (get_or p j []) ≤ max_degree) parts
    (multiple-degrees field cmp width order shifts c.requires.divisors c.requires.led place m c.requires.place here q iq c.requires.degree j l)

pub returns-clause-taken : goal.returns-clause-taken
returns-clause-taken g c =
    let ring = g.F.Ring.ring in
    let cmp = g.O.TermOrder.order c.args.order.now in
    let width = g.O.TermOrder.components c.args.order.now in
    let order = g.met.O.TermOrder.lawful c.args.order.now c.width-width.ensures.of in
    let field = g.met.F.Field.field_laws in
    let shifts = c.args.grading.now.shifts in
    let place = c.args.place in
    let m = c.index-member.result.now in
    let q = c.args.quotient.now in
    let iq = c.degree-degree.ensures.of.exponents in
    let here : get_or c.args.self.now.members place m ≡ m =
    ap (λ d. get_or d.members place m) (sym c.self.view_is) ∙ sym c.index-member.ensures in
    let parts : m.parts ≡ c.as_slice-parts.result.now = ap (λ d. d.parts) (sym c.member.view_is) ∙ sym c.as_slice-parts.ensures.value in
    let vc = c.times-factor.ensures.left in
    let f = c.times-factor.result in
    let f_is : f ≡ ring.mul c.args.c m.inverse = c.times-factor.ensures.value ∙ ap (ring.mul c.args.c) (ap (λ d. d.inverse) c.member.view_is) in
    let rest = vector_of ring c.args.rest.now.items in
    let rest_is = c.in_ok-add_multiple.ensures.value
    ∙ (λ i. vector_plus ring rest (vector_scale ring (term_poly ring (c.negate-negative.ensures.value i) q) (vector_of ring (sym parts i)))) in
    taken field cmp width order shifts c.requires.divisors c.requires.led place m c.requires.place here c.args.c f vc f_is q iq c.requires.lead rest_is
