use Rattle.std.proofs.Common.{◌≡◌, IfSome, IfNone, arith, inl, inr, subst, sym, ◌∙◌}
use Rattle.std.proofs.lemmas.Bool.{false≢true}
use Rattle.hp_algebra.specs.Ring.{power}
use Rattle.hp_poly.specs.Factors.{IsFactor}
use Rattle.hp_poly.specs.Polynomials.{IsPoly, poly_ring, poly_times}
use Rattle.hp_poly.specs.PolyRing.{poly_is_ring}
use Rattle.hp_poly.proofs.FactorSteps.{own-quotient, zero-fails}
use Rattle.hp_poly.proofs.poly.Poly.div_by_form.Goals as goal
use Rattle.hp_poly.proofs.poly.Poly.div_by_form.Goals.{
  else-power-gt0-via-then-power-gt0+else-not-is_zero-2,
  else-power-gt0-via-else-power-gt0,
}

pub returns-then-not-is_zero-clause-some : goal.returns-then-not-is_zero-clause-some
returns-then-not-is_zero-clause-some g c =
    let ring = g.F.Ring.ring in
    let p = c.args.self.now in
    subst (λ h. IfSome c.in_ok-quotient.quotient (λ q. p ≡ poly_times ring (power (poly_ring ring) h c.args.power) q))
    c.in_ok-by.ensures c.in_ok-quotient.ensures.some

pub returns-then-not-is_zero-clause-none : goal.returns-then-not-is_zero-clause-none
returns-then-not-is_zero-clause-none g c =
    let ring = g.F.Ring.ring in
    let P = poly_ring ring in
    subst (λ h. IfNone c.in_ok-quotient.quotient (¬ (IsFactor P (power P h c.args.power) c.args.self.now)))
    c.in_ok-by.ensures c.in_ok-quotient.ensures.none

pub returns-then-not-is_zero-2-clause-none : goal.returns-then-not-is_zero-2-clause-none
returns-then-not-is_zero-2-clause-none g c =
    let laws = poly_is_ring g.met.F.Ring.ring_laws g.met.F.CommRing.commutes in
    let zero = (laws.zero_test _ c.is_zero.ensures.of).0 (sym c.if-not-is_zero.ensures.value) in
    zero-fails g.met.F.Field.field_laws c.in_ok-by.ensures zero c.if-power-gt0.true
    (λ e. false≢true (c.if-not-is_zero-2.ensures.value ∙ (laws.zero_test _ c.terms-dividend.ensures.of).1 e))

pub returns-clause-some : goal.returns-clause-some
returns-clause-some g c =
    let field = g.met.F.Field.field_laws in
    let laws = poly_is_ring g.met.F.Ring.ring_laws g.met.F.CommRing.commutes in
    let form = subst (IsPoly g.F.Ring.ring) c.in_ok-by.ensures c.is_zero.ensures.of in
    let dividend = c.terms-dividend.ensures.of in
    elim c.else-power-gt0.branch [
      | else-power-gt0-via-then-power-gt0+else-not-is_zero-2 w ↦ own-quotient field form dividend c.in_ok-quotient-2.ensures
          (inr ((laws.zero_test _ dividend).0 (sym w.if-not-is_zero-2.ensures.value)))
      | else-power-gt0-via-else-power-gt0 w ↦ own-quotient field form dividend c.in_ok-quotient-2.ensures
          (inl (omega (arith, w.if-power-gt0.false)))
    ]
