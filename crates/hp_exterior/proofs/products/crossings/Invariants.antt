use Rattle.std.proofs.Common.{length}
use Rattle.hp_exterior.proofs.Crossings.{IsCounted}
use Rattle.hp_exterior.proofs.products.crossings.Given as goal

abbrev pub invariant-loop-i : goal.invariant-loop-i
invariant-loop-i l = IsCounted l.fn.s l.fn.t l.rest l.count

abbrev pub decreases-loop-i : goal.decreases-loop-i
decreases-loop-i l = length l.rest
