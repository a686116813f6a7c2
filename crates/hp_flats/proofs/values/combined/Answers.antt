use Rattle.std.proofs.Common.{◌≡◌, ◌<◌, length, sym, ◌∙◌, arith}
use Rattle.std.proofs.lemmas.List.{same_lists, get_or-map}
use Rattle.hp_algebra.specs.Rows.{row_scale}
use Rattle.hp_algebra.proofs.Rows.{length-plus, length-scale, get_or-plus}
use Rattle.hp_flats.proofs.values.combined.Goals as goal

pub returns : goal.returns
returns g c =
    let ring = g.K.Ring.ring in
    let x = c.args.x.now in
    let y = c.args.y.now in
    let sx = row_scale ring c.args.a x in
    let sy = row_scale ring c.args.b y in
    let lx : length sx ≡ length x = length-scale ring c.args.a x in
    let same : length sx ≡ length sy = lx ∙ c.requires ∙ sym (length-scale ring c.args.b y) in
    let end : length c.loop-k.sum.items ≡ length x = omega (arith, c.loop-k.invariant.long, c.loop-k-test.false, c.loop-k.auto.k-end) in
    c.of.ensures
    ∙ same_lists _ _ (end ∙ sym lx ∙ sym (length-plus ring sx sy same)) (λ k d h.
    let in_x : k < length x = omega (arith, h, end) in
    let in_y : k < length y = omega (arith, in_x, c.requires) in
    let in_sx : k < length sx = omega (arith, in_x, lx) in
    c.loop-k.invariant.done k d (omega (arith, h, c.loop-k.invariant.long))
    ∙ (λ i. ring.add (sym (get_or-map (ring.mul c.args.a) x k d d in_x) i) (sym (get_or-map (ring.mul c.args.b) y k d d in_y) i))
    ∙ sym (get_or-plus ring sx sy k d in_sx same))
