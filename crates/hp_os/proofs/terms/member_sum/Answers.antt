use Rattle.std.proofs.Common.{arith, refl}
use Rattle.hp_os.proofs.StraightSteps.{taken, added_start, added_step, added_end}
use Rattle.hp_os.proofs.terms.member_sum.Goals as goal

pub loop-i-init : goal.loop-i-init
loop-i-init c = added_start c.is_empty-members.ensures.set

pub overflow_add-total : goal.overflow_add-total
overflow_add-total c =
    let step = added_step c.loop-i.invariant (taken c.loop-i.invariant.set c.in-Some.ensures.value refl) in
    omega (arith, step.1)

pub loop-i-smaller : goal.loop-i-smaller
loop-i-smaller c = (taken c.loop-i.invariant.set c.in-Some.ensures.value c.without-rest.ensures.value).shorter

pub loop-i-preserved : goal.loop-i-preserved
loop-i-preserved c =
    (added_step c.loop-i.invariant (taken c.loop-i.invariant.set c.in-Some.ensures.value c.without-rest.ensures.value)).0

pub returns-clause-value : goal.returns-clause-value
returns-clause-value c = (added_end c.loop-i.invariant (c.in_default.ensures.none.0 refl)).0

pub returns-clause-high : goal.returns-clause-high
returns-clause-high c = (added_end c.loop-i.invariant (c.in_default.ensures.none.0 refl)).1
