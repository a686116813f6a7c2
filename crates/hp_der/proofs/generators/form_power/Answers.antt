use Rattle.std.proofs.Common.{ap, arith}
use Rattle.hp_poly.specs.Polynomials.{poly_degree}
use Rattle.hp_der.proofs.FirstForms.{form-degree, power-degree}
use Rattle.hp_der.proofs.generators.form_power.Goals as goal

pub mul-requires : goal.mul-requires
mul-requires g c =
    let laws = g.met.F.Ring.ring_laws in
    let comm = g.met.F.CommRing.commutes in
    let form = c.args.form.now in
    let first = form-degree laws comm form c.requires.values c.requires.variables in
    let other = power-degree laws comm form c.loop.counter c.requires.values c.requires.variables in
    let is_form = ap (poly_degree g.F.Ring.ring) c.in_ok-linear.ensures in
    let is_power = ap (poly_degree g.F.Ring.ring) c.loop.invariant in
    omega (arith, first, other, is_form, is_power, c.loop-test.true, c.requires.most)
