use Rattle.std.proofs.Common.{◌≡◌, ◌<◌, length, sym, ◌∙◌, arith}
use Rattle.std.proofs.lemmas.List.{same_lists, get_or-map}
use Rattle.hp_algebra.proofs.Rows.{length-scale}
use Rattle.hp_algebra.proofs.row.scaled.Goals as goal

pub returns : goal.returns
returns g c =
    let ring = g.F.Ring.ring in
    let old = c.args.row.items in
    let long : length c.loop-k.row.items ≡ length old = c.loop-k.invariant.long in
    same_lists _ _ (long ∙ sym (length-scale ring c.args.c old)) (λ k d h.
    let in_old : k < length old = omega (arith, long, h) in
    c.loop-k.invariant.done k d (omega (arith, h, c.loop-k-test.false)) ∙ sym (get_or-map (ring.mul c.args.c) old k d d in_old))
