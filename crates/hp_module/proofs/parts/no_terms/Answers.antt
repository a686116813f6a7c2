use Rattle.std.proofs.Common.{◌≡◌, [], length, arith}
use Rattle.hp_algebra.proofs.Rows.{zero_row-ext}
use Rattle.hp_poly.specs.PolyRing.{poly_is_ring}
use Rattle.hp_module.proofs.parts.no_terms.Goals as goal

pub returns : goal.returns
returns g c =
    let laws = poly_is_ring g.met.F.Ring.ring_laws g.met.F.CommRing.commutes in
    let long : length c.loop.parts.items ≡ c.args.width = omega (arith, c.loop.invariant.long, c.loop-test.false) in
    zero_row-ext laws c.args.width c.loop.parts.items long (λ j h. c.loop.invariant.each j [] (omega (arith, h, c.loop-test.false)))
