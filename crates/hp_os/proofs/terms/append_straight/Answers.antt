use Rattle.std.proofs.Common.{◌+◌, ap, ◌∙◌}
use Rattle.hp_sets.specs.Sets.{with_member}
use Rattle.hp_os.proofs.StraightSteps.{straight_step, taken}
use Rattle.hp_os.proofs.terms.append_straight.Goals as goal

pub loop-b-smaller : goal.loop-b-smaller
loop-b-smaller g c = (taken c.loop-b.invariant.set c.in-Some.ensures.value c.without-rest.ensures.value).shorter

pub loop-b-preserved : goal.loop-b-preserved
loop-b-preserved g c =
    let step = taken c.loop-b.invariant.set c.in-Some.ensures.value c.without-rest.ensures.value in
    let i = c.args.i in record {
      set = step.set;
      same = straight_step g.K.Ring.ring c.args.s c.args.c i c.loop-b.out.items c.loop-b.invariant.same step
          (c.with.ensures.value ∙ ap (λ v. with_member v i) c.without.ensures.value)
          (λ j. c.count_below.ensures.value j + c.count_below-in-Some.ensures.value j)
          c.signed.ensures c.in_ok-push.ensures.items;
    }
