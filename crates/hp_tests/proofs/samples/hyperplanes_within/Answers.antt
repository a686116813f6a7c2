use Rattle.std.proofs.Common.{length, sym, ap, ◌∙◌}
use Rattle.hp_lists.specs.Lists.{one_to}
use Rattle.hp_sets.specs.Sets.{is_within}
use Rattle.hp_sets.proofs.Collecting.{within-first}
use Rattle.hp_tests.proofs.samples.hyperplanes_within.Goals as goal

pub returns-then-is_within : goal.returns-then-is_within
returns-then-is_within c =
    within-first (length c.args.aff.now.forms) c.args.set c.is_within.ensures.set
    (ap (is_within c.args.set) (ap one_to (sym c.len.ensures.value) ∙ sym c.first.ensures.value) ∙ sym c.is_within.ensures.value ∙ c.if-is_within.true)
