use Rattle.std.proofs.Common.{arith, refl}
use Rattle.hp_exterior.proofs.Crossings.{counted_start, counted_step, counted_end}
use Rattle.hp_exterior.proofs.products.crossings.Goals as goal

pub loop-i-init : goal.loop-i-init
loop-i-init c = counted_start c.is_empty-first.ensures.set c.is_empty-second.ensures.set

pub overflow_add-count : goal.overflow_add-count
overflow_add-count c =
    let step = counted_step c.loop-i.invariant c.in-Some.ensures.value c.first.ensures.value c.meet.ensures.value
    c.len-count.ensures.value refl in
    omega (arith, step.fits)

pub loop-i-smaller : goal.loop-i-smaller
loop-i-smaller c =
    (counted_step c.loop-i.invariant c.in-Some.ensures.value c.first.ensures.value c.meet.ensures.value
    c.len-count.ensures.value c.without-rest.ensures.value).shorter

pub loop-i-preserved : goal.loop-i-preserved
loop-i-preserved c =
    (counted_step c.loop-i.invariant c.in-Some.ensures.value c.first.ensures.value c.meet.ensures.value
    c.len-count.ensures.value c.without-rest.ensures.value).counted

pub returns : goal.returns
returns c = counted_end c.is_empty-first.ensures.set c.loop-i.invariant (c.in_default.ensures.none.0 refl)
