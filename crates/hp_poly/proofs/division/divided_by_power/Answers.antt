use Rattle.std.proofs.Common.{◌≡◌, IfSome, IfNone, ap, subst, sym, ◌∙◌}
use Rattle.hp_algebra.specs.Ring.{power}
use Rattle.hp_poly.specs.Factors.{IsFactor}
use Rattle.hp_poly.specs.Polynomials.{IsPoly, poly_ring, poly_times}
use Rattle.hp_poly.specs.PolyRing.{poly_commutes, poly_is_ring}
use Rattle.hp_poly.proofs.FactorLaws.{power-start, power-step}
use Rattle.hp_poly.proofs.FactorSteps.{power-fails}
use Rattle.hp_poly.proofs.division.divided_by_power.Goals as goal

pub loop-init : goal.loop-init
loop-init g c =
    let ring = g.F.Ring.ring in
    let laws = poly_is_ring g.met.F.Ring.ring_laws g.met.F.CommRing.commutes in
    let commutes = poly_commutes g.met.F.Ring.ring_laws g.met.F.CommRing.commutes in
    let f = c.terms-dividend.ensures.of in
    let same = sym c.in_ok-quotient.ensures in record {
      answer = subst (IsPoly ring) same f;
      value = power-start laws commutes c.args.by.now c.args.p.now f
          ∙ ap (poly_times ring (power (poly_ring ring) c.args.by.now 0)) same;
    }

pub loop-preserved : goal.loop-preserved
loop-preserved g c =
    let ring = g.F.Ring.ring in
    let laws = poly_is_ring g.met.F.Ring.ring_laws g.met.F.CommRing.commutes in
    let commutes = poly_commutes g.met.F.Ring.ring_laws g.met.F.CommRing.commutes in
    let by = c.args.by.now in
    let q = c.loop.quotient in
    let f = subst (λ o. IfSome o (IsPoly ring)) c.in-Some.is c.in_ok-next.ensures.answer in
    let e = subst (λ o. IfSome o (λ h. q ≡ poly_times ring by h)) c.in-Some.is c.in_ok-next.ensures.some in record {
      answer = f;
      value = power-step laws commutes by c.args.p.now q _ c.loop.counter c.terms-divisor.ensures.of f c.loop.invariant.value e;
    }

pub returns-in-None-clause-none : goal.returns-in-None-clause-none
returns-in-None-clause-none g c =
    power-fails g.met.F.Field.field_laws c.terms-divisor.ensures.of c.requires c.loop.invariant.answer
    c.loop.invariant.value c.loop-test.true
    (subst (λ o. IfNone o (¬ (IsFactor (poly_ring g.F.Ring.ring) c.args.by.now c.loop.quotient))) c.in-None.is
    c.in_ok-next.ensures.none)
