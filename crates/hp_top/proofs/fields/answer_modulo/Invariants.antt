use Rattle.hp_io.specs.Causes.{HasCause}
use Rattle.hp_session.specs.State.{no_names}
use Rattle.hp_top.specs.Course.{course_after}
use Rattle.hp_top.proofs.Lines.{Going}
use Rattle.hp_top.proofs.fields.answer_modulo.Given as goal

abbrev pub invariant-loop-line : goal.invariant-loop-line
invariant-loop-line g l = record {
  going : Going g.M.Modulus.P (course_after g.M.Modulus.P (no_names l.fn.limits) l.lines) l.lines l.line-index l.session (g.T.Sink.written l.fn.out) (g.T.Sink.written l.out);
  counted : HasCause (g.T.Sink.faults l.fn.out) (g.T.Sink.faults l.out) ⊥;
}
