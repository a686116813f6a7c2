use Rattle.std.proofs.Common.{◌≡◌, ◌∙◌, ◌-◌, ◌+◌, ◌<◌, [], length, get_or, arith}
use Rattle.std.proofs.lemmas.List.{get_or_default}
use Rattle.hp_mono.specs.Monomials.{one}
use Rattle.hp_poly.specs.Polynomials.{coefficient_of}
use Rattle.hp_der.proofs.RangeSteps.{next-value_from}
use Rattle.hp_der.proofs.RowConstants.{constants-are}
use Rattle.hp_der.proofs.prepared.constant_row.Goals as goal

pub loop-c-preserved : goal.loop-c-preserved
loop-c-preserved g c =
    let ring = g.F.Ring.ring in
    let xs = c.args.quotients.now in
    let k = c.loop-c.c in
    let stop = c.args.stop in
    let x = c.index-quotients-stop.result in
    let l : stop - (k + 1) < length xs = omega (arith, c.loop-c-test.true, c.loop-c.auto.c-end, c.requires.within, c.requires.order) in
    let at : x ≡ get_or xs (stop - (k + 1)) [] = c.index-quotients-stop.is ∙ get_or_default xs (stop - (k + 1)) x [] l in
    next-value_from 0 (λ c. coefficient_of ring (get_or xs (stop - (c + 1)) []) one) [] c.loop-c.row.items _ c.coeff.result k k (omega arith)
    c.loop-c.invariant (c.coeff.ensures ∙ (λ i. coefficient_of ring (at i) (c.one-one.ensures.value i))) c.in_ok-push.ensures.items

pub returns : goal.returns
returns g c =
    constants-are g.met.F.Ring.ring_laws g.met.F.CommRing.commutes c.args.quotients.now c.args.start c.args.stop c.loop-c.c c.requires.vector c.requires.order c.requires.within
    c.loop-c.invariant (omega (arith, c.loop-c-test.false, c.loop-c.auto.c-end))
