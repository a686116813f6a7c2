use Rattle.std.proofs.Common.{◌≡◌, ◌<◌, length, sym, ap, ◌∙◌, arith}
use Rattle.std.proofs.lemmas.List.{same_lists, get_or-map}
use Rattle.hp_algebra.specs.Rows.{row_scale}
use Rattle.hp_algebra.proofs.Rows.{length-plus, length-scale, get_or-plus}
use Rattle.hp_linear.proofs.row.add_multiple.Goals as goal

pub returns : goal.returns
returns g c =
    let ring = g.F.Ring.ring in
    let old = c.args.row.now in
    let other = c.args.other.now in
    let scaled = row_scale ring c.args.c other in
    let wide : length old ≡ length scaled = c.requires ∙ sym (length-scale ring c.args.c other) in
    let long : length c.loop-k.row ≡ length old = c.loop-k.invariant.long in
    same_lists _ _ (long ∙ sym (length-plus ring old scaled wide)) (λ k d h.
    let in_old : k < length old = omega (arith, long, h) in
    let in_other : k < length other = omega (arith, c.requires, in_old) in
    c.loop-k.invariant.done k d (omega (arith, h, c.loop-k-test.false))
    ∙ sym (get_or-plus ring old scaled k d in_old wide ∙ ap (ring.add _) (get_or-map (ring.mul c.args.c) other k d d in_other)))
