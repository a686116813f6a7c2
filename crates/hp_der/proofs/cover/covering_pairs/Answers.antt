use Rattle.std.proofs.Common.{◌<◌, length, refl, arith}
use Rattle.hp_der.proofs.CoveringPairs.{cover-next}
use Rattle.hp_der.proofs.cover.covering_pairs.Goals as goal

pub loop-i-preserved : goal.loop-i-preserved
loop-i-preserved c =
    let l : c.loop-i.i < length c.args.leads.now = omega (arith, c.loop-i-test.true, c.loop-i.auto.i-end) in
    cover-next c.loop-i.invariant l c.index-leads-i.is refl c.in_ok-places.ensures.minimal c.as_slice.ensures.value c.in_ok-pairs.ensures
