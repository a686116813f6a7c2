use Rattle.std.proofs.Common.{◌≡◌, ◌<◌, [], ◌∷◌, ◌++◌, get_or, take, length, sym, ap, ◌∙◌, arith}
use Rattle.std.proofs.lemmas.List.{get_or_read}
use Rattle.hp_algebra.specs.Rows.{row_scale, row_minus}
use Rattle.hp_algebra.proofs.RowDifferences.{minus-more}
use Rattle.hp_arr.proofs.restriction.minus_multiple.Goals as goal

pub loop-k-preserved : goal.loop-k-preserved
loop-k-preserved g c =
    let ring = g.K.Ring.ring in
    let a = c.args.a.now in
    let b = c.args.b.now in
    let k = c.loop-k.k in
    let times = ring.mul c.args.c in
    let in_b : k < length b = c.loop-k-test.true in
    let in_a : k < length a = omega (arith, in_b, c.requires) in
    let y : c.index-b-k.result ≡ get_or b k ring.zero = get_or_read b k c.index-b-k.result in_b c.index-b-k.is ring.zero in
    let x : c.index-a-k.result ≡ get_or a k ring.zero = get_or_read a k c.index-a-k.result in_a c.index-a-k.is ring.zero in
    let entry : c.minus.result ≡ ring.add (get_or b k ring.zero) (ring.neg (times (get_or a k ring.zero))) =
    c.minus.ensures.value ∙ ap (λ v. ring.add v (ring.neg c.times.result)) y ∙ ap (λ v. ring.add (get_or b k ring.zero) (ring.neg v)) (c.times.ensures.value ∙ ap times x) in
    c.in_ok-push.ensures.items
    ∙ ap (λ row. row ++ c.minus.result ∷ []) c.loop-k.invariant
    ∙ ap (λ v. row_minus ring (take k b) (row_scale ring c.args.c (take k a)) ++ v ∷ []) entry
    ∙ sym (minus-more ring c.args.c b a k ring.zero in_b c.requires)
