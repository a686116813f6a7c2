use Rattle.std.proofs.Common.{◌∙◌, [], length, get_or, ap, sym, refl, arith}
use Rattle.hp_algebra.proofs.Rows.{zero_row-ext}
use Rattle.hp_poly.specs.PolyRing.{poly_is_ring}
use Rattle.hp_module.proofs.vector.ModVec.is_zero.Goals as goal

pub returns : goal.returns
returns g c =
    let laws = poly_is_ring g.met.F.Ring.ring_laws g.met.F.CommRing.commutes in
    let v = c.args.self.now in
    let same = c.entries-entries.ensures.value in (
      λ _. zero_row-ext laws (length v) v refl (λ j h.
          ap (λ w. get_or w j []) (sym same) ∙ c.loop-k.invariant j [] (omega (arith, h, ap length same, c.loop-k-test.false))),
      λ _. refl,
    )
