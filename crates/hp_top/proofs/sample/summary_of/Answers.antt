use Rattle.std.proofs.Common.{◌≤◌, length, sym, ap, subst, ◌∙◌}
use Rattle.std.proofs.lemmas.Result.{IfOk-weaker}
use Rattle.hp_sampled.proofs.SampleReading.{sample-short}
use Rattle.hp_script.specs.Script.{most_bytes}
use Rattle.hp_top.specs.Course.{IsWithinGrammar}
use Rattle.hp_top.specs.Summary.{feeds}
use Rattle.hp_top.proofs.SampleCourse.{sample_lawful, sample_lines, summary}
use Rattle.hp_top.proofs.sample.summary_of.Goals as goal

pub commands_of-requires-clause-short : goal.commands_of-requires-clause-short
commands_of-requires-clause-short c =
    subst (λ s. length s ≤ most_bytes) (sym (c.deref.ensures.value ∙ c.in_ok-script.ensures)) (sample-short c.args.k)

pub commands_of-requires-clause-lawful : goal.commands_of-requires-clause-lawful
commands_of-requires-clause-lawful c =
    subst IsWithinGrammar (sym (c.deref.ensures.value ∙ c.in_ok-script.ensures)) (sample_lawful c.args.k)

pub tally_behind_field-requires-clause-some : goal.tally_behind_field-requires-clause-some
tally_behind_field-requires-clause-some c =
    (sample_lines c.args.k c.deref.result.now c.in_ok-lines.lines.items c.deref-2.result.now
    (c.deref.ensures.value ∙ c.in_ok-script.ensures) c.deref-2.ensures.value c.in_ok-lines.ensures.commands).some

pub tally_behind_field-requires-clause-accepted : goal.tally_behind_field-requires-clause-accepted
tally_behind_field-requires-clause-accepted c =
    (sample_lines c.args.k c.deref.result.now c.in_ok-lines.lines.items c.deref-2.result.now
    (c.deref.ensures.value ∙ c.in_ok-script.ensures) c.deref-2.ensures.value c.in_ok-lines.ensures.commands).accepted

pub returns : goal.returns
returns c =
    let are = sample_lines c.args.k c.deref.result.now c.in_ok-lines.lines.items c.deref-2.result.now
    (c.deref.ensures.value ∙ c.in_ok-script.ensures) c.deref-2.ensures.value c.in_ok-lines.ensures.commands in
    IfOk-weaker c.summary_text.result _ _
    (λ text is. summary c.args.k c.deref-2.result.now c.count_feeds.result c.in_ok-tally.tally text.items are
    (c.count_feeds.ensures ∙ ap feeds (c.deref-3.ensures.value ∙ c.in_ok-script.ensures)) c.in_ok-tally.ensures is) c.summary_text.ensures
