use Rattle.std.proofs.Common.{[], refl, subst}
use Rattle.hp_top.specs.Ends.{EndsScript}
use Rattle.hp_top.proofs.RightCall.{ran_right}
use Rattle.hp_top.proofs.run_script.Goals as goal

pub returns-in-Ok : goal.returns-in-Ok
returns-in-Ok g c =
    let written_before = g.T.Sink.written c.args.out.now in
    let written_after = g.T.Sink.written c.answer_script.new.out in
    record {
      right = ran_right [] (g.S.Source.left c.args.src.now) (g.S.Source.left c.read_all.new.src) (g.S.Source.faults c.args.src.now) (g.S.Source.faults c.read_all.new.src) written_before written_after (g.T.Sink.faults c.args.out.now) (g.T.Sink.faults c.answer_script.new.out) c.answer_script.result
          c.in-Ok.script.items refl c.in-Ok.ensures.whole c.in-Ok.ensures.short _ c.in-Ok.ensures.counted c.answer_script.ensures.counted
          (subst (λ s. EndsScript s c.answer_script.result written_before written_after) c.deref.ensures.value c.answer_script.ensures.ends);
    }
