use Rattle.std.proofs.Common.{sym, subst}
use Rattle.hp_io.proofs.Faults.{cause_none, cause_more}
use Rattle.hp_session.specs.State.{no_names}
use Rattle.hp_top.specs.Course.{course_after}
use Rattle.hp_top.proofs.Lines.{Going, going_first, going_on, ending}
use Rattle.hp_top.proofs.fields.answer_modulo.Goals as goal

pub loop-line-init : goal.loop-line-init
loop-line-init g c = record {
  going =
      let p = g.M.Modulus.P in
      let written = g.T.Sink.written c.args.out.now in
      let whole = course_after p (no_names c.args.limits) c.args.lines.now in
      subst (λ state. Going p whole c.args.lines.now 0 state written written) (sym c.new-session.ensures) (going_first p c.args.limits c.args.lines.now written);
  counted = cause_none (g.T.Sink.faults c.args.out.now) ⊥ (g.met.T.Sink.count_fits c.args.out.now) (λ never. never);
}

pub returns-in-Err-clause-ends : goal.returns-in-Err-clause-ends
returns-in-Err-clause-ends g c =
    ending g.M.Modulus.P (course_after g.M.Modulus.P (no_names c.args.limits) c.args.lines.now) c.args.lines.now c.loop-line.line-index c.loop-line.session (g.T.Sink.written c.args.out.now) (g.T.Sink.written c.loop-line.out) c.loop-line.invariant.going
    c.line-item.result c.loop-line-test.true c.line-item.is c.in-Err.status (g.T.Sink.written c.answer_line.new.out) c.in-Err.ensures.ends

pub loop-line-preserved : goal.loop-line-preserved
loop-line-preserved g c = record {
  going =
      going_on g.M.Modulus.P (course_after g.M.Modulus.P (no_names c.args.limits) c.args.lines.now) c.args.lines.now c.loop-line.line-index c.loop-line.session (g.T.Sink.written c.args.out.now) (g.T.Sink.written c.loop-line.out) c.loop-line.invariant.going
      c.line-item.result c.loop-line-test.true c.line-item.is c.answer_line.new.session (g.T.Sink.written c.answer_line.new.out) c.in_default.ensures.goes_on;
  counted = cause_more (g.T.Sink.faults c.args.out.now) (g.T.Sink.faults c.loop-line.out) (g.T.Sink.faults c.answer_line.new.out) ⊥ _ ⊥ c.loop-line.invariant.counted c.answer_line.ensures.counted (λ never. absurd never);
}
