use Rattle.std.proofs.Common.{◌≡◌, ◌+◌, ◌-◌, ◌<◌, length, get_or, min, ap, arith, ◌∙◌}
use Rattle.hp_algebra.specs.Ring.{power}
use Rattle.hp_poly.specs.Degrees.{degree_times_most, poly_weights}
use Rattle.hp_poly.specs.Polynomials.{poly_degree, poly_ring, poly_times}
use Rattle.hp_poly.proofs.SubstitutionSteps.{drop-least, image-step, rest-degree}
use Rattle.hp_poly.proofs.TermMultiples.{value_end}
use Rattle.hp_poly.proofs.substitution.image_of.Goals as goal

pub loop-k-init : goal.loop-k-init
loop-k-init g c =
    let ring = g.F.Ring.ring in
    let m = c.args.m.now in
    let eight = c.degree-degree.ensures.of.exponents in
    let end : c.min-k.result ≡ min (length c.args.xs.now) (length m) = omega (arith, c.min-k.ensures, eight) in
    let one = (poly_weights g.met.F.Ring.ring_laws g.met.F.CommRing.commutes).of_one in
    let e = ap (poly_degree ring) c.in_ok-value.ensures.value in
    record {
      within = omega (arith, c.min-k.ensures);
      value = c.in_ok-value.ensures.value ∙ value_end (poly_ring ring) c.min-k.result c.args.xs.now m end;
      degree = omega (arith, one, e);
    }

pub mul-requires : goal.mul-requires
mul-requires g c =
    let m = c.args.m.now in
    let of = c.degree-degree.ensures.of in
    let rest = rest-degree m (c.loop-k.k - 1) c.loop-k.k (omega (arith, c.loop-k-test.true)) (omega (arith, c.loop-k-test.true, c.loop-k.invariant.within, of.exponents)) in
    let most = drop-least m (c.loop-k.k - 1) in
    let back : (c.loop-k.k - 1 + 1) - 1 ≡ c.loop-k.k - 1 = omega arith in
    let exponent : c.exp.result ≡ get_or m (c.loop-k.k - 1) 0 = c.exp.ensures.value ∙ ap (λ j. get_or m j 0) back in
    omega (arith, rest, most, of.degree_most, c.in_ok-factor.ensures.degree, exponent, c.loop-k.invariant.degree)

pub loop-k-preserved : goal.loop-k-preserved
loop-k-preserved g c =
    let ring = g.F.Ring.ring in
    let m = c.args.m.now in
    let xs = c.args.xs.now in
    let k = c.loop-k.k - 1 in
    let next : k + 1 ≡ c.loop-k.k = omega (arith, c.loop-k-test.true) in
    let lx : k < length xs = omega (arith, next, c.loop-k.invariant.within) in
    let lm : k < length m = omega (arith, next, c.loop-k.invariant.within, c.degree-degree.ensures.of.exponents) in
    let rest = rest-degree m k c.loop-k.k next lm in
    let back : (k + 1) - 1 ≡ k = omega arith in
    let exponent : c.exp.result ≡ get_or m k 0 = c.exp.ensures.value ∙ ap (λ j. get_or m j 0) back in
    let most = degree_times_most g.met.F.Ring.ring_laws g.met.F.CommRing.commutes c.in_ok-factor.factor c.loop-k.value c.mul.ensures.left c.mul.ensures.right in
    let e = ap (poly_degree ring) c.in_ok-value-2.ensures.value in
    record {
      within = omega (arith, next, c.loop-k.invariant.within);
      value = c.in_ok-value-2.ensures.value
          ∙ (λ i. poly_times ring ((c.in_ok-factor.ensures.value ∙ (λ j. power (poly_ring ring) (c.index-xs-k.is j) (exponent j))) i) (c.loop-k.invariant.value i))
          ∙ image-step (poly_ring ring) xs m k c.loop-k.k c.index-xs-k.result next lx lm;
      degree = omega (arith, rest, most, e, c.in_ok-factor.ensures.degree, exponent, c.loop-k.invariant.degree);
    }
