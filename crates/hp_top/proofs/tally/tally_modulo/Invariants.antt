use Rattle.hp_session.specs.State.{no_names}
use Rattle.hp_top.specs.Course.{course_after}
use Rattle.hp_top.proofs.Tallying.{Tallying}
use Rattle.hp_top.proofs.tally.tally_modulo.Given as goal

abbrev pub invariant-loop-line : goal.invariant-loop-line
invariant-loop-line g l = Tallying g.M.Modulus.P (course_after g.M.Modulus.P (no_names l.fn.limits) l.lines) l.lines l.line-index l.session l.tally
