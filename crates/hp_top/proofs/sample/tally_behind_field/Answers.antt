use Rattle.std.proofs.Common.{IfOk, ap, subst, ◌∙◌}
use Rattle.hp_top.specs.Course.{Course}
use Rattle.hp_top.specs.Tallies.{IsTally}
use Rattle.hp_top.proofs.SampleCourse.{same_course}
use Rattle.hp_top.proofs.sample.tally_behind_field.Goals as goal

pub tally_modulo-requires-clause-accepted : goal.tally_modulo-requires-clause-accepted
tally_modulo-requires-clause-accepted c =
    ap (λ (course : Course). course.refused) (same_course c.new-prelude.result.limits c.args.lines.now c.new-prelude.ensures.first) ∙ c.requires.accepted

pub returns : goal.returns
returns c =
    subst (λ (course : Course). IfOk c.tally_modulo.result (λ tally. IsTally course.questions tally))
    (same_course c.new-prelude.result.limits c.args.lines.now c.new-prelude.ensures.first) c.tally_modulo.ensures
