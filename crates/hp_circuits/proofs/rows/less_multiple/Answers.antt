use Rattle.std.proofs.Common.{◌≡◌, ◌<◌, length, get_or, sym, ap, ◌∙◌, arith}
use Rattle.std.proofs.lemmas.List.{same_lists, get_or-map}
use Rattle.hp_algebra.specs.Rows.{row_scale}
use Rattle.hp_algebra.proofs.Rows.{length-plus, length-scale, get_or-plus}
use Rattle.hp_circuits.proofs.rows.less_multiple.Goals as goal

pub returns : goal.returns
returns g c =
    let ring = g.K.Ring.ring in
    let v = c.args.v.now in
    let w = c.args.w.now in
    let sv = row_scale ring (ring.neg c.args.c) v in
    let same : length w ≡ length sv = sym c.requires ∙ sym (length-scale ring (ring.neg c.args.c) v) in
    let end : length c.loop-k.row.items ≡ length w = omega (arith, c.loop-k.invariant.long, c.loop-k-test.false, c.loop-k.auto.k-end) in
    c.of.ensures
    ∙ same_lists _ _ (end ∙ sym (length-plus ring w sv same)) (λ k d h.
    let in_w : k < length w = omega (arith, h, end) in
    let in_v : k < length v = omega (arith, in_w, c.requires) in
    c.loop-k.invariant.done k d (omega (arith, h, c.loop-k.invariant.long))
    ∙ ap (λ f. ring.add (get_or w k d) (ring.mul f (get_or v k d))) c.negate-factor.ensures.value
    ∙ ap (ring.add (get_or w k d)) (sym (get_or-map (ring.mul (ring.neg c.args.c)) v k d d in_v))
    ∙ sym (get_or-plus ring w sv k d in_w same))
