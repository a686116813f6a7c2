use Rattle.std.proofs.Common.{length}
use Rattle.hp_module.proofs.merging.+sorted.Given as goal

abbrev pub decreases-sorted : goal.decreases-sorted
decreases-sorted g l = length l.terms.now
