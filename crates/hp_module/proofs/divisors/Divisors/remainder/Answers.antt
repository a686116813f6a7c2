use Rattle.std.proofs.Common.{◌≡◌, ◌≤◌, ◌<◌, ◌-◌, ◌∷◌, ◌∙◌, [], get_or, length, ap, sym, subst, arith}
use Rattle.std.proofs.lemmas.List.{length-map}
use Rattle.hp_mono.specs.Monomials.{max_degree}
use Rattle.hp_poly.specs.Polynomials.{Poly}
use Rattle.hp_module.specs.Vectors.{IsVector, Vector, zero_vector}
use Rattle.hp_module.specs.FreeModules.{term_degree, terms}
use Rattle.hp_module.specs.Leads.{IsGreatestTerm}
use Rattle.hp_module.specs.Divisions.{IsDivided}
use Rattle.hp_module.specs.FallingTerms.{free_module, vector_of, with_leads}
use Rattle.hp_module.proofs.HeldRemainders.{left-begin, left-degree, left-end, left-lead, left-moved, left-moved-falls, left-taken, left-taken-falls}
use Rattle.hp_module.proofs.divisors.Divisors.remainder.Goals as goal

pub steps-init : goal.steps-init
steps-init g c =
    let ring = g.F.Ring.ring in
    let cmp = g.O.TermOrder.order c.args.order.now in
    let width = g.O.TermOrder.components c.args.order.now in
    let order = g.met.O.TermOrder.lawful c.args.order.now c.width-width.ensures.of in
    let field = g.met.F.Field.field_laws in
    let shifts = c.args.grading.now.shifts in
    let d = c.args.self.now in
    let v = c.args.v.now in
    let wide : c.width-width-2.result ≡ width = c.width-width-2.ensures.value ∙ sym c.requires.width in
    let hv = subst (λ n. IsVector ring n v) wide c.width-width-2.ensures.of in
    let count : length (with_leads ring d).members ≡ length d.members = length-map d.members (λ m. vector_of ring m.parts) in
    let led = c.requires.led in
    left-begin field cmp width order shifts led hv c.in_ok-rest.ensures.falling c.in_ok-rest.ensures.value (c.in_ok-out.ensures ∙ ap (zero_vector ring) wide)

pub take-requires-clause-lead : goal.take-requires-clause-lead
take-requires-clause-lead g c =
    let ring = g.F.Ring.ring in
    let cmp = g.O.TermOrder.order c.args.order.now in
    let width = g.O.TermOrder.components c.args.order.now in
    let order = g.met.O.TermOrder.lawful c.args.order.now c.width-width.ensures.of in
    let field = g.met.F.Field.field_laws in
    let shifts = c.args.grading.now.shifts in
    let d = c.args.self.now in
    let v = c.args.v.now in
    let wide : c.width-width-2.result ≡ width = c.width-width-2.ensures.value ∙ sym c.requires.width in
    let hv = subst (λ n. IsVector ring n v) wide c.width-width-2.ensures.of in
    let count : length (with_leads ring d).members ≡ length d.members = length-map d.members (λ m. vector_of ring m.parts) in
    let led = c.requires.led in
    let n = c.requires.homogeneous.0 in
    let hd = c.requires.homogeneous.2 in
    let u = c.steps.invariant in
    let t = c.in-Some.t in
    let top = left-lead field cmp width order shifts led hv n hd u c.as_slice.ensures.value t c.in-Some.c c.in-Some.ensures.within c.in-Some.ensures.first c.in-Some.ensures.greatest.1 in
    let found = c.in-Some-divisor.ensures in
    let place : c.in-Some-divisor.found.0 < length (with_leads ring d).members = omega (arith, found.0, count) in
    subst (λ w. IsGreatestTerm cmp (vector_of ring c.steps.rest.items) w c.in-Some.c) (sym found.1) top

pub take-requires-clause-degree : goal.take-requires-clause-degree
take-requires-clause-degree g c =
    let ring = g.F.Ring.ring in
    let cmp = g.O.TermOrder.order c.args.order.now in
    let width = g.O.TermOrder.components c.args.order.now in
    let order = g.met.O.TermOrder.lawful c.args.order.now c.width-width.ensures.of in
    let field = g.met.F.Field.field_laws in
    let shifts = c.args.grading.now.shifts in
    let d = c.args.self.now in
    let v = c.args.v.now in
    let wide : c.width-width-2.result ≡ width = c.width-width-2.ensures.value ∙ sym c.requires.width in
    let hv = subst (λ n. IsVector ring n v) wide c.width-width-2.ensures.of in
    let count : length (with_leads ring d).members ≡ length d.members = length-map d.members (λ m. vector_of ring m.parts) in
    let led = c.requires.led in
    let n = c.requires.homogeneous.0 in
    let hd = c.requires.homogeneous.2 in
    let u = c.steps.invariant in
    let t = c.in-Some.t in
    let top = left-lead field cmp width order shifts led hv n hd u c.as_slice.ensures.value t c.in-Some.c c.in-Some.ensures.within c.in-Some.ensures.first c.in-Some.ensures.greatest.1 in
    let found = c.in-Some-divisor.ensures in
    let place : c.in-Some-divisor.found.0 < length (with_leads ring d).members = omega (arith, found.0, count) in
    let same = left-degree field cmp width order shifts led hv n hd u t c.in-Some.c top in
    subst (λ w. term_degree shifts w ≤ max_degree) (sym found.1) (subst (λ k. k ≤ max_degree) (sym same) c.requires.homogeneous.1)

pub steps-smaller-in-Continue-branch-3 : goal.steps-smaller-in-Continue-branch-3
steps-smaller-in-Continue-branch-3 g c =
    let ring = g.F.Ring.ring in
    let cmp = g.O.TermOrder.order c.args.order.now in
    let width = g.O.TermOrder.components c.args.order.now in
    let order = g.met.O.TermOrder.lawful c.args.order.now c.width-width.ensures.of in
    let field = g.met.F.Field.field_laws in
    let shifts = c.args.grading.now.shifts in
    let d = c.args.self.now in
    let v = c.args.v.now in
    let wide : c.width-width-2.result ≡ width = c.width-width-2.ensures.value ∙ sym c.requires.width in
    let hv = subst (λ n. IsVector ring n v) wide c.width-width-2.ensures.of in
    let count : length (with_leads ring d).members ≡ length d.members = length-map d.members (λ m. vector_of ring m.parts) in
    let led = c.requires.led in
    let n = c.requires.homogeneous.0 in
    let hd = c.requires.homogeneous.2 in
    let u = c.steps.invariant in
    let t = c.in-Some.t in
    let top = left-lead field cmp width order shifts led hv n hd u c.as_slice.ensures.value t c.in-Some.c c.in-Some.ensures.within c.in-Some.ensures.first c.in-Some.ensures.greatest.1 in
    let found = c.in-Some-divisor.ensures in
    let place : c.in-Some-divisor.found.0 < length (with_leads ring d).members = omega (arith, found.0, count) in
    left-taken-falls field cmp width order shifts led hv n hd u place c.take.new.rest.items c.in_ok-take-in-Some-divisor.ensures.taken

pub steps-preserved-in-Continue-branch-3 : goal.steps-preserved-in-Continue-branch-3
steps-preserved-in-Continue-branch-3 g c =
    let ring = g.F.Ring.ring in
    let cmp = g.O.TermOrder.order c.args.order.now in
    let width = g.O.TermOrder.components c.args.order.now in
    let order = g.met.O.TermOrder.lawful c.args.order.now c.width-width.ensures.of in
    let field = g.met.F.Field.field_laws in
    let shifts = c.args.grading.now.shifts in
    let d = c.args.self.now in
    let v = c.args.v.now in
    let wide : c.width-width-2.result ≡ width = c.width-width-2.ensures.value ∙ sym c.requires.width in
    let hv = subst (λ n. IsVector ring n v) wide c.width-width-2.ensures.of in
    let count : length (with_leads ring d).members ≡ length d.members = length-map d.members (λ m. vector_of ring m.parts) in
    let led = c.requires.led in
    let n = c.requires.homogeneous.0 in
    let hd = c.requires.homogeneous.2 in
    let u = c.steps.invariant in
    let t = c.in-Some.t in
    let top = left-lead field cmp width order shifts led hv n hd u c.as_slice.ensures.value t c.in-Some.c c.in-Some.ensures.within c.in-Some.ensures.first c.in-Some.ensures.greatest.1 in
    let found = c.in-Some-divisor.ensures in
    let place : c.in-Some-divisor.found.0 < length (with_leads ring d).members = omega (arith, found.0, count) in
    left-taken field cmp width order shifts led hv n hd u place c.take.new.rest.items c.in_ok-take-in-Some-divisor.ensures.taken c.in_ok-take-in-Some-divisor.ensures.falling

pub steps-smaller : goal.steps-smaller
steps-smaller g c =
    let ring = g.F.Ring.ring in
    let cmp = g.O.TermOrder.order c.args.order.now in
    let width = g.O.TermOrder.components c.args.order.now in
    let order = g.met.O.TermOrder.lawful c.args.order.now c.width-width.ensures.of in
    let field = g.met.F.Field.field_laws in
    let shifts = c.args.grading.now.shifts in
    let d = c.args.self.now in
    let v = c.args.v.now in
    let wide : c.width-width-2.result ≡ width = c.width-width-2.ensures.value ∙ sym c.requires.width in
    let hv = subst (λ n. IsVector ring n v) wide c.width-width-2.ensures.of in
    let count : length (with_leads ring d).members ≡ length d.members = length-map d.members (λ m. vector_of ring m.parts) in
    let led = c.requires.led in
    let n = c.requires.homogeneous.0 in
    let hd = c.requires.homogeneous.2 in
    let u = c.steps.invariant in
    let t = c.in-Some.t in
    let top = left-lead field cmp width order shifts led hv n hd u c.as_slice.ensures.value t c.in-Some.c c.in-Some.ensures.within c.in-Some.ensures.first c.in-Some.ensures.greatest.1 in
    let first = subst (λ r. (p : Poly g.row.F.Denot) × (get_or r (t.comp - 1) [] ≡ (t.mono, c.in-Some.c) ∷ p)) c.as_slice.ensures.value c.in-Some.ensures.first in
    left-moved-falls field cmp width order shifts led hv n hd u c.in-Some.ensures.within top first c.in_ok-move_lead-in-None.ensures.rest c.in_ok-move_lead-in-None.ensures.out

pub steps-preserved : goal.steps-preserved
steps-preserved g c =
    let ring = g.F.Ring.ring in
    let cmp = g.O.TermOrder.order c.args.order.now in
    let width = g.O.TermOrder.components c.args.order.now in
    let order = g.met.O.TermOrder.lawful c.args.order.now c.width-width.ensures.of in
    let field = g.met.F.Field.field_laws in
    let shifts = c.args.grading.now.shifts in
    let d = c.args.self.now in
    let v = c.args.v.now in
    let wide : c.width-width-2.result ≡ width = c.width-width-2.ensures.value ∙ sym c.requires.width in
    let hv = subst (λ n. IsVector ring n v) wide c.width-width-2.ensures.of in
    let count : length (with_leads ring d).members ≡ length d.members = length-map d.members (λ m. vector_of ring m.parts) in
    let led = c.requires.led in
    let n = c.requires.homogeneous.0 in
    let hd = c.requires.homogeneous.2 in
    let u = c.steps.invariant in
    let t = c.in-Some.t in
    let top = left-lead field cmp width order shifts led hv n hd u c.as_slice.ensures.value t c.in-Some.c c.in-Some.ensures.within c.in-Some.ensures.first c.in-Some.ensures.greatest.1 in
    let first = subst (λ r. (p : Poly g.row.F.Denot) × (get_or r (t.comp - 1) [] ≡ (t.mono, c.in-Some.c) ∷ p)) c.as_slice.ensures.value c.in-Some.ensures.first in
    left-moved field cmp width order shifts led hv n hd u c.in-Some.ensures.within top first c.in_ok-move_lead-in-None.ensures.rest c.in_ok-move_lead-in-None.ensures.out c.in-None.ensures

pub returns : goal.returns
returns g c =
    let ring = g.F.Ring.ring in
    let cmp = g.O.TermOrder.order c.args.order.now in
    let width = g.O.TermOrder.components c.args.order.now in
    let order = g.met.O.TermOrder.lawful c.args.order.now c.width-width.ensures.of in
    let field = g.met.F.Field.field_laws in
    let shifts = c.args.grading.now.shifts in
    let d = c.args.self.now in
    let v = c.args.v.now in
    let wide : c.width-width-2.result ≡ width = c.width-width-2.ensures.value ∙ sym c.requires.width in
    let hv = subst (λ n. IsVector ring n v) wide c.width-width-2.ensures.of in
    let count : length (with_leads ring d).members ≡ length d.members = length-map d.members (λ m. vector_of ring m.parts) in
    let led = c.requires.led in
    let M = free_module ring g.F.Field.inverse width shifts cmp in
    let none = ap terms (sym c.as_slice.ensures.value) ∙ c.in_default.ensures.greatest in
    let out = c.new.ensures.value ∙ c.in_ok-remainder.ensures ∙ ap (vector_of ring) c.as_slice-2.ensures.value in
    subst (λ r. (qs : Vector g.row.F.Denot) × IsDivided M v (with_leads ring d) qs r) (sym out)
    (left-end field cmp width order shifts led hv c.steps.invariant none)
