use Rattle.std.proofs.Common.{length}
use Rattle.hp_os.proofs.StraightSteps.{IsAdded}
use Rattle.hp_os.proofs.terms.member_sum.Given as goal

abbrev pub invariant-loop-i : goal.invariant-loop-i
invariant-loop-i l = IsAdded l.fn.s l.rest l.total

abbrev pub decreases-loop-i : goal.decreases-loop-i
decreases-loop-i l = length l.rest
