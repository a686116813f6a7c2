use Rattle.std.proofs.Common.{◌≡◌, drop}
use Rattle.hp_session.specs.State.{AreLimits}
use Rattle.hp_top.specs.Course.{course, course_before}
use Rattle.hp_top.proofs.answers.answer_lines.Given as goal

abbrev pub invariant-loop-i : goal.invariant-loop-i
invariant-loop-i g l = record {
  ahead : course l.lines ≡ course_before l.prelude.limits (drop l.i l.lines);
  limits : AreLimits l.prelude.limits;
  nothing : l.out ≡ l.fn.out;
}
