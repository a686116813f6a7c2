use Rattle.std.proofs.Common.{◌↔◌, All, length}
use Rattle.hp_sets.specs.Sets.{IsSetWithin}
use Rattle.hp_os.proofs.support.is_supported.Given as goal

-- all terms are within where the rest is
abbrev pub invariant-loop-t : goal.invariant-loop-t
invariant-loop-t g l =
    All (λ t. IsSetWithin (length l.arr.forms) t.0) l.rest ↔ All (λ t. IsSetWithin (length l.arr.forms) t.0) l.fn.x

abbrev pub decreases-loop-t : goal.decreases-loop-t
decreases-loop-t g l = length l.rest
