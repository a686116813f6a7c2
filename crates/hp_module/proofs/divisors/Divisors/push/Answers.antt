use Rattle.std.proofs.Common.{◌≡◌, ◌≢◌, ◌-◌, ◌∷◌, ◌++◌, ◌∙◌, [], All, get_or, map, ap, refl, sym, subst, arith}
use Rattle.std.proofs.lemmas.List.{map-append}
use Rattle.std.specs.declared.cmp.Ordering.TheVariants.{Less}
use Rattle.hp_mono.specs.declared.term.Term.{Term}
use Rattle.hp_poly.specs.Polynomials.{Poly}
use Rattle.hp_module.specs.Vectors.{Vector, zero_vector}
use Rattle.hp_module.specs.FreeModules.{terms}
use Rattle.hp_module.specs.Leads.{IsGreatestTerm}
use Rattle.hp_module.specs.FallingTerms.{AreDivisors, Divisor, IsDivisor, vector_of, with_leads, with_member}
use Rattle.hp_module.proofs.DividedParts.{parts-greatest, parts-zero}
use Rattle.hp_module.proofs.DivisorLists.{divisors-with, lead-nonzero}
use Rattle.hp_module.proofs.divisors.Divisors.push.Goals as goal

pub keep-requires-clause-within : goal.keep-requires-clause-within
keep-requires-clause-within g c =
    omega (arith, c.in-Some.ensures.within.2, c.requires.divisors.long)

pub returns-in-None-clause-divisors : goal.returns-in-None-clause-divisors
returns-in-None-clause-divisors g c =
    let ring = g.F.Ring.ring in
    let cmp = g.O.TermOrder.order c.args.order.now in
    let width = g.O.TermOrder.components c.args.order.now in
    let order = g.met.O.TermOrder.lawful c.args.order.now c.width-width.ensures.of in
    let field = g.met.F.Field.field_laws in
    let parts = c.in_ok-parts.parts.items in
    let falling = c.in_ok-parts.ensures.falling in
    let zero = parts-zero field cmp width order parts falling (ap terms (sym c.as_slice.ensures.value) ∙ c.in-None.ensures.greatest) in
    absurd (c.requires.nonzero (sym c.in_ok-parts.ensures.value ∙ zero ∙ ap (zero_vector ring) c.requires.width))

pub returns-in-None-inv-clause-divisors : goal.returns-in-None-inv-clause-divisors
returns-in-None-inv-clause-divisors g c =
    let ring = g.F.Ring.ring in
    let cmp = g.O.TermOrder.order c.args.order.now in
    let width = g.O.TermOrder.components c.args.order.now in
    let order = g.met.O.TermOrder.lawful c.args.order.now c.width-width.ensures.of in
    let field = g.met.F.Field.field_laws in
    let parts = c.in_ok-parts.parts.items in
    let falling = c.in_ok-parts.ensures.falling in
    let lead = c.in-Some.lead in
    let first = c.in-Some.first in
    let same = c.as_slice.ensures.value in
    let top : IsGreatestTerm cmp (vector_of ring parts) lead first =
    parts-greatest field cmp width order parts falling lead first c.in-Some.ensures.within
    (subst (λ r. (p : Poly g.row.F.Denot) × (get_or r (lead.comp - 1) [] ≡ (lead.mono, first) ∷ p)) same c.in-Some.ensures.first)
    (subst (λ r. All (λ (s : Term × g.row.F.Denot). cmp lead s.0 ≢ Less) (terms r)) same c.in-Some.ensures.greatest.1) in
    let nonzero = lead-nonzero field cmp width order [] falling top in
    absurd (nonzero (c.in-None-inv.ensures.none.0 refl))

pub returns-in-None-clause-members : goal.returns-in-None-clause-members
returns-in-None-clause-members g c =
    let ring = g.F.Ring.ring in
    let cmp = g.O.TermOrder.order c.args.order.now in
    let width = g.O.TermOrder.components c.args.order.now in
    let order = g.met.O.TermOrder.lawful c.args.order.now c.width-width.ensures.of in
    let field = g.met.F.Field.field_laws in
    let parts = c.in_ok-parts.parts.items in
    let falling = c.in_ok-parts.ensures.falling in
    let zero = parts-zero field cmp width order parts falling (ap terms (sym c.as_slice.ensures.value) ∙ c.in-None.ensures.greatest) in
    absurd (c.requires.nonzero (sym c.in_ok-parts.ensures.value ∙ zero ∙ ap (zero_vector ring) c.requires.width))

pub returns-in-None-inv-clause-members : goal.returns-in-None-inv-clause-members
returns-in-None-inv-clause-members g c =
    let ring = g.F.Ring.ring in
    let cmp = g.O.TermOrder.order c.args.order.now in
    let width = g.O.TermOrder.components c.args.order.now in
    let order = g.met.O.TermOrder.lawful c.args.order.now c.width-width.ensures.of in
    let field = g.met.F.Field.field_laws in
    let parts = c.in_ok-parts.parts.items in
    let falling = c.in_ok-parts.ensures.falling in
    let lead = c.in-Some.lead in
    let first = c.in-Some.first in
    let same = c.as_slice.ensures.value in
    let top : IsGreatestTerm cmp (vector_of ring parts) lead first =
    parts-greatest field cmp width order parts falling lead first c.in-Some.ensures.within
    (subst (λ r. (p : Poly g.row.F.Denot) × (get_or r (lead.comp - 1) [] ≡ (lead.mono, first) ∷ p)) same c.in-Some.ensures.first)
    (subst (λ r. All (λ (s : Term × g.row.F.Denot). cmp lead s.0 ≢ Less) (terms r)) same c.in-Some.ensures.greatest.1) in
    let nonzero = lead-nonzero field cmp width order [] falling top in
    absurd (nonzero (c.in-None-inv.ensures.none.0 refl))

pub returns-in_ok-keep-in-Some-inv-clause-divisors : goal.returns-in_ok-keep-in-Some-inv-clause-divisors
returns-in_ok-keep-in-Some-inv-clause-divisors g c =
    let ring = g.F.Ring.ring in
    let cmp = g.O.TermOrder.order c.args.order.now in
    let width = g.O.TermOrder.components c.args.order.now in
    let order = g.met.O.TermOrder.lawful c.args.order.now c.width-width.ensures.of in
    let field = g.met.F.Field.field_laws in
    let parts = c.in_ok-parts.parts.items in
    let falling = c.in_ok-parts.ensures.falling in
    let lead = c.in-Some.lead in
    let first = c.in-Some.first in
    let same = c.as_slice.ensures.value in
    let top : IsGreatestTerm cmp (vector_of ring parts) lead first =
    parts-greatest field cmp width order parts falling lead first c.in-Some.ensures.within
    (subst (λ r. (p : Poly g.row.F.Denot) × (get_or r (lead.comp - 1) [] ≡ (lead.mono, first) ∷ p)) same c.in-Some.ensures.first)
    (subst (λ r. All (λ (s : Term × g.row.F.Denot). cmp lead s.0 ≢ Less) (terms r)) same c.in-Some.ensures.greatest.1) in
    let nonzero = lead-nonzero field cmp width order [] falling top in
    let m : Divisor g.row.F.Denot = record { lead = lead; inverse = c.in-Some-inv.inverse; parts = parts } in
    let vf = c.in-Some-inv.ensures.of in
    let vi = c.in-Some-inv.ensures.answer in
    let kept : c.keep.new.self ≡ with_member c.args.self.now m = c.in_ok-keep-in-Some-inv.ensures in
    let is : IsDivisor ring cmp width m = record {
      falling = falling;
      first = first;
      greatest = top;
      inverse_value = vi;
      inverse_is = field.commutes c.in-Some-inv.inverse first vi vf ∙ ap (ring.mul first) c.in-Some-inv.ensures.some ∙ field.mul_inverse first vf nonzero;
    } in
    subst (AreDivisors ring cmp width) (sym kept) (divisors-with ring cmp width c.requires.divisors is c.in-Some.ensures.within.1 c.in-Some.ensures.within.2)

pub returns-in_ok-keep-in-Some-inv-clause-members : goal.returns-in_ok-keep-in-Some-inv-clause-members
returns-in_ok-keep-in-Some-inv-clause-members g c =
    let ring = g.F.Ring.ring in
    let cmp = g.O.TermOrder.order c.args.order.now in
    let width = g.O.TermOrder.components c.args.order.now in
    let order = g.met.O.TermOrder.lawful c.args.order.now c.width-width.ensures.of in
    let field = g.met.F.Field.field_laws in
    let parts = c.in_ok-parts.parts.items in
    let falling = c.in_ok-parts.ensures.falling in
    let lead = c.in-Some.lead in
    let first = c.in-Some.first in
    let same = c.as_slice.ensures.value in
    let top : IsGreatestTerm cmp (vector_of ring parts) lead first =
    parts-greatest field cmp width order parts falling lead first c.in-Some.ensures.within
    (subst (λ r. (p : Poly g.row.F.Denot) × (get_or r (lead.comp - 1) [] ≡ (lead.mono, first) ∷ p)) same c.in-Some.ensures.first)
    (subst (λ r. All (λ (s : Term × g.row.F.Denot). cmp lead s.0 ≢ Less) (terms r)) same c.in-Some.ensures.greatest.1) in
    let nonzero = lead-nonzero field cmp width order [] falling top in
    let m : Divisor g.row.F.Denot = record { lead = lead; inverse = c.in-Some-inv.inverse; parts = parts } in
    let vf = c.in-Some-inv.ensures.of in
    let vi = c.in-Some-inv.ensures.answer in
    let kept : c.keep.new.self ≡ with_member c.args.self.now m = c.in_ok-keep-in-Some-inv.ensures in
    let is : IsDivisor ring cmp width m = record {
      falling = falling;
      first = first;
      greatest = top;
      inverse_value = vi;
      inverse_is = field.commutes c.in-Some-inv.inverse first vi vf ∙ ap (ring.mul first) c.in-Some-inv.ensures.some ∙ field.mul_inverse first vf nonzero;
    } in
    let f : Divisor g.row.F.Denot → Vector g.row.F.Denot = λ n. vector_of ring n.parts in
    ap (λ d. (with_leads ring d).members) kept ∙ map-append f c.args.self.now.members (m ∷ [])
    ∙ ap (λ w. map f c.args.self.now.members ++ w ∷ []) c.in_ok-parts.ensures.value
