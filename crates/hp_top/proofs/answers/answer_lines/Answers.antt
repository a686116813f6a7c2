use Rattle.std.proofs.Common.{◌≡◌, subst}
use Rattle.hp_io.specs.Causes.{HasCause}
use Rattle.hp_io.proofs.Faults.{cause_none}
use Rattle.hp_session.specs.Steps.{prime_of}
use Rattle.hp_top.specs.Course.{course}
use Rattle.hp_top.specs.Ends.{EndsBy}
use Rattle.hp_top.specs.declared.status.Status.TheVariants.{Done, WriteFault}
use Rattle.hp_top.proofs.Choosing.{ends_unchosen, ends_refused, ends_chosen}
use Rattle.hp_top.proofs.answers.answer_lines.Goals as goal

pub returns-in-Chosen-clause-ends : goal.returns-in-Chosen-clause-ends
returns-in-Chosen-clause-ends g c =
    let steps = c.in-Chosen.ensures.steps in
    subst (λ old. EndsBy c.answer_over.result (course c.args.lines.now) (g.T.Sink.written old) (g.T.Sink.written c.answer_over.new.out)) c.loop-i.invariant.nothing
    (ends_chosen c.args.lines.now c.loop-i.i c.loop-i.prelude.limits c.loop-i.invariant.ahead c.index-lines-i.result c.loop-i-test.true c.index-lines-i.is
    (prime_of c.in-Chosen.which) c.step.new.self.limits c.answer_over.result (g.T.Sink.written c.loop-i.out) (g.T.Sink.written c.answer_over.new.out) steps.0 steps.1 steps.2 c.answer_over.ensures.ends)

pub returns-in-Chosen-clause-counted : goal.returns-in-Chosen-clause-counted
returns-in-Chosen-clause-counted g c =
    subst (λ old. HasCause (g.T.Sink.faults old) (g.T.Sink.faults c.answer_over.new.out) (c.answer_over.result ≡ WriteFault)) c.loop-i.invariant.nothing c.answer_over.ensures.counted

pub returns-in-Refused-clause-ends : goal.returns-in-Refused-clause-ends
returns-in-Refused-clause-ends g c =
    subst (λ old. EndsBy c.refuse.result (course c.args.lines.now) (g.T.Sink.written old) (g.T.Sink.written c.refuse.new.out)) c.loop-i.invariant.nothing
    (ends_refused c.args.lines.now c.loop-i.i c.loop-i.prelude.limits c.loop-i.invariant.ahead c.index-lines-i.result c.loop-i-test.true c.index-lines-i.is
    c.in-Refused.refusal c.refuse.result (g.T.Sink.written c.loop-i.out) (g.T.Sink.written c.refuse.new.out) c.in-Refused.ensures.steps.0 c.refuse.ensures.ends)

pub returns-in-Refused-clause-counted : goal.returns-in-Refused-clause-counted
returns-in-Refused-clause-counted g c =
    subst (λ old. HasCause (g.T.Sink.faults old) (g.T.Sink.faults c.refuse.new.out) (c.refuse.result ≡ WriteFault)) c.loop-i.invariant.nothing c.refuse.ensures.counted

pub returns-clause-ends : goal.returns-clause-ends
returns-clause-ends g c =
    subst (λ old. EndsBy Done (course c.args.lines.now) (g.T.Sink.written old) (g.T.Sink.written c.loop-i.out)) c.loop-i.invariant.nothing
    (ends_unchosen c.args.lines.now c.loop-i.i c.loop-i.prelude.limits c.loop-i.invariant.ahead c.loop-i-test.false (g.T.Sink.written c.loop-i.out))

pub returns-clause-counted : goal.returns-clause-counted
returns-clause-counted g c =
    subst (λ old. HasCause (g.T.Sink.faults old) (g.T.Sink.faults c.loop-i.out) (Done ≡ WriteFault)) c.loop-i.invariant.nothing
    (cause_none (g.T.Sink.faults c.loop-i.out) (Done ≡ WriteFault) (g.met.T.Sink.count_fits c.loop-i.out) (λ clash. cc))
