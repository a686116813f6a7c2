use Rattle.std.proofs.Common.{arith}
use Rattle.std.proofs.Math.Seq.{take-add}
use Rattle.std.proofs.lemmas.List.{take_rest, length-drop}
use Rattle.hp_io.proofs.Givings.{gave_more}
use Rattle.hp_io.proofs.sink.write_all.Goals as goal

pub loop-at-preserved : goal.loop-at-preserved
loop-at-preserved g c =
    let bytes = c.args.bytes.now in
    let at = c.loop-at.at in
    let bound = rw (take_rest bytes at) at c.in-Ok.ensures.bound in
    let piece = rw (take_rest bytes at) at c.in-Ok.ensures.bytes in
    record {
      within = omega (arith, length-drop at bytes, bound.1);
      later = omega (arith, c.loop-at.invariant.later, c.in-Ok.ensures.counted.never_falls);
      given = rw take-add (gave_more _ (g.T.Sink.written c.loop-at.out) _ _ _ c.loop-at.invariant.given piece);
    }
