use Rattle.std.proofs.Common.{rules, ap, arith}
use Rattle.hp_poly.specs.Polynomials.{poly_degree}
use Rattle.hp_poly.specs.Degrees.{degree_times_most}
use Rattle.hp_poly.proofs.substitution.power_of.Goals as goal

pub loop-preserved : goal.loop-preserved
loop-preserved g c =
    let ring = g.F.Ring.ring in
    let most = degree_times_most g.met.F.Ring.ring_laws g.met.F.CommRing.commutes c.args.x.now c.loop.value c.mul.ensures.left c.mul.ensures.right in
    let e = ap (poly_degree ring) c.in_ok-value-2.ensures.value in
    record {
      value = search rules;
      degree = omega (arith, most, e, c.requires.linear, c.loop.invariant.degree);
    }
