use Rattle.std.proofs.Common.{length}
use Rattle.hp_exterior.proofs.BoundarySteps.{IsDropping}
use Rattle.hp_exterior.proofs.products.append_boundary.Given as goal

abbrev pub invariant-loop-i : goal.invariant-loop-i
invariant-loop-i g l = IsDropping g.F.Ring.ring l.fn.s l.fn.c l.rest l.turned l.fn.out.items l.out.items

abbrev pub decreases-loop-i : goal.decreases-loop-i
decreases-loop-i g l = length l.rest
