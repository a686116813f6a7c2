use Rattle.hp_os.proofs.StraightSteps.{below_count, below_high}
use Rattle.hp_os.proofs.terms.count_below.Goals as goal

pub returns-clause-value : goal.returns-clause-value
returns-clause-value c =
    below_count c.is_empty-members.ensures.set c.requires.low c.first.ensures.value c.meet.ensures.value c.len.ensures.value

pub returns-clause-high : goal.returns-clause-high
returns-clause-high c =
    below_high c.args.i c.is_empty-members.ensures.set
    (below_count c.is_empty-members.ensures.set c.requires.low c.first.ensures.value c.meet.ensures.value c.len.ensures.value)
