use Rattle.std.proofs.Common.{◌≡◌, ◌∙◌, [], length, arith}
use Rattle.hp_algebra.proofs.Rows.{zero_row-ext}
use Rattle.hp_poly.specs.PolyRing.{poly_is_ring}
use Rattle.hp_module.proofs.vector.ModVecModulePoly.m_zero.Goals as goal

pub returns-clause-value : goal.returns-clause-value
returns-clause-value g c =
    let laws = poly_is_ring g.met.F.Ring.ring_laws g.met.F.CommRing.commutes in
    let zeros = c.loop.zeros.items in
    let width = c.args.width in
    let long : length zeros ≡ width = omega (arith, c.loop.invariant.long, c.loop-test.false) in
    c.new.ensures.value ∙ zero_row-ext laws width zeros long (λ j h. c.loop.invariant.each j [] (omega (arith, h, c.loop-test.false)))
