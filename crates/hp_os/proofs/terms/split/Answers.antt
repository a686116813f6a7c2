use Rattle.std.proofs.Common.{◌≡◌, nat_lt, true, false, not, ap, arith}
use Rattle.std.proofs.lemmas.Bool.{lt-ltb, le-ltb}
use Rattle.hp_os.specs.Straightening.{is_lower, member_sum}
use Rattle.hp_os.proofs.StraightSteps.{split_skip, split_step}
use Rattle.hp_os.proofs.terms.split.Goals as goal

pub loop-t-preserved-in_ok-push : goal.loop-t-preserved-in_ok-push
loop-t-preserved-in_ok-push g c =
    let level = c.args.level in
    let sum = member_sum c.in-Some.t.now.0 in
    let low : nat_lt sum level ≡ true = lt-ltb sum level (omega (arith, c.if-member_sum-level.true, c.member_sum.ensures.value)) in record {
      upper = split_skip (λ t. not (is_lower level t)) c.loop-t.upper.items c.loop-t.invariant.upper c.in-Some.ensures.cases.0 (ap not low);
      lower = split_step (is_lower level) c.loop-t.lower.items c.loop-t.invariant.lower c.in-Some.ensures.cases.0 low c.in_ok-push.ensures.items;
    }

pub loop-t-preserved : goal.loop-t-preserved
loop-t-preserved g c =
    let level = c.args.level in
    let sum = member_sum c.in-Some.t.now.0 in
    let high : nat_lt sum level ≡ false = le-ltb sum level (omega (arith, c.if-member_sum-level.false, c.member_sum.ensures.value)) in record {
      upper = split_step (λ t. not (is_lower level t)) c.loop-t.upper.items c.loop-t.invariant.upper c.in-Some.ensures.cases.0 (ap not high)
          c.in_ok-push-2.ensures.items;
      lower = split_skip (is_lower level) c.loop-t.lower.items c.loop-t.invariant.lower c.in-Some.ensures.cases.0 high;
    }
