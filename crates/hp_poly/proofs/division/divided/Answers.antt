use Rattle.std.proofs.Common.{length, ap, refl, subst, sym, ◌∙◌}
use Rattle.hp_poly.proofs.ExactDivision.{IsDividing, dividing_start}
use Rattle.hp_poly.proofs.FactorSteps.{IsStep, c-nonzero, degrees-most, ends, fails, next, peak-falls}
use Rattle.hp_poly.proofs.TermMultiples.{first_nonzero}
use Rattle.hp_poly.proofs.division.divided.Goals as goal

pub returns-in-None-inv-clause-none : goal.returns-in-None-inv-clause-none
returns-in-None-inv-clause-none g c factor =
    first_nonzero g.met.F.Field.field_laws c.terms.ensures.of (sym c.terms.ensures.value ∙ c.in-Some.ensures.cases.0)
    (c.in-None-inv.ensures.none.0 refl)

pub loop-first-init : goal.loop-first-init
loop-first-init g c =
    let ring = g.F.Ring.ring in
    let by = c.args.by.now in
    let p = c.args.p.now in
    let start = dividing_start g.met.F.Field.field_laws by p c.terms.ensures.of c.terms-polynomial.ensures.of in
    subst (IsDividing ring by p c.new-terms.result.items) (sym c.in_ok-rest.ensures)
    (subst (λ ts. IsDividing ring by p ts p) (sym c.new-terms.ensures.items) start)

pub returns-in-None-quotient-clause-none : goal.returns-in-None-quotient-clause-none
returns-in-None-quotient-clause-none g c =
    fails g.met.F.Field.field_laws (sym c.terms.ensures.value ∙ c.in-Some.ensures.cases.0)
    (sym c.terms-in-loop-first.ensures.value ∙ c.in-Some-split_first.ensures.cases.0) c.terms.ensures.of
    c.loop-first.invariant c.in-None-quotient.ensures.none

pub minus_multiple-requires : goal.minus_multiple-requires
minus_multiple-requires g c =
    let ring = g.F.Ring.ring in
    let lead = c.in-Some.lead.now in
    let first = c.in-Some-split_first.first.now in
    let s : IsStep ring g.F.Field.inverse c.args.by.now c.loop-first.rest lead first c.in-Some._tail.now
    c.in-Some-split_first._others.now c.in-Some-quotient.m c.times-c.result =
    record {
      lead_is = sym c.terms.ensures.value ∙ c.in-Some.ensures.cases.0;
      first_is = sym c.terms-in-loop-first.ensures.value ∙ c.in-Some-split_first.ensures.cases.0;
      g_is = c.terms.ensures.of;
      rest_is = c.loop-first.invariant.rest_is;
      m_is = c.in-Some-quotient.ensures.answer.exponents;
      m_times = c.in-Some-quotient.ensures.some;
      c_is = c.times-c.ensures.value ∙ ap (ring.mul first.1) c.in-Some-inv.ensures.some;
      most = c.in-Some-quotient.ensures.left.degree_most;
    } in
    record { nonzero = c-nonzero g.met.F.Field.field_laws s; degrees = degrees-most g.met.F.Field.field_laws s }

pub loop-first-preserved : goal.loop-first-preserved
loop-first-preserved g c =
    let ring = g.F.Ring.ring in
    let lead = c.in-Some.lead.now in
    let first = c.in-Some-split_first.first.now in
    let s : IsStep ring g.F.Field.inverse c.args.by.now c.loop-first.rest lead first c.in-Some._tail.now
    c.in-Some-split_first._others.now c.in-Some-quotient.m c.times-c.result =
    record {
      lead_is = sym c.terms.ensures.value ∙ c.in-Some.ensures.cases.0;
      first_is = sym c.terms-in-loop-first.ensures.value ∙ c.in-Some-split_first.ensures.cases.0;
      g_is = c.terms.ensures.of;
      rest_is = c.loop-first.invariant.rest_is;
      m_is = c.in-Some-quotient.ensures.answer.exponents;
      m_times = c.in-Some-quotient.ensures.some;
      c_is = c.times-c.ensures.value ∙ ap (ring.mul first.1) c.in-Some-inv.ensures.some;
      most = c.in-Some-quotient.ensures.left.degree_most;
    } in
    next g.met.F.Field.field_laws s c.loop-first.invariant c.in_ok-push.ensures.items c.in_ok-rest-2.ensures

pub loop-first-smaller : goal.loop-first-smaller
loop-first-smaller g c =
    let ring = g.F.Ring.ring in
    let lead = c.in-Some.lead.now in
    let first = c.in-Some-split_first.first.now in
    let s : IsStep ring g.F.Field.inverse c.args.by.now c.loop-first.rest lead first c.in-Some._tail.now
    c.in-Some-split_first._others.now c.in-Some-quotient.m c.times-c.result =
    record {
      lead_is = sym c.terms.ensures.value ∙ c.in-Some.ensures.cases.0;
      first_is = sym c.terms-in-loop-first.ensures.value ∙ c.in-Some-split_first.ensures.cases.0;
      g_is = c.terms.ensures.of;
      rest_is = c.loop-first.invariant.rest_is;
      m_is = c.in-Some-quotient.ensures.answer.exponents;
      m_times = c.in-Some-quotient.ensures.some;
      c_is = c.times-c.ensures.value ∙ ap (ring.mul first.1) c.in-Some-inv.ensures.some;
      most = c.in-Some-quotient.ensures.left.degree_most;
    } in
    let field = g.met.F.Field.field_laws in
    let new = next field s c.loop-first.invariant c.in_ok-push.ensures.items c.in_ok-rest-2.ensures in
    peak-falls field s new.rest_is c.in_ok-rest-2.ensures

pub returns-clause-some : goal.returns-clause-some
returns-clause-some g c =
    ends g.met.F.Field.field_laws c.terms.ensures.of c.loop-first.invariant
    (ap length (sym c.terms-in-loop-first.ensures.value) ∙ c.in_default.ensures.cases) c.in_ok-quotient.ensures
