use Rattle.std.proofs.Common.{◌↔◌, All, length}
use Rattle.hp_sums.specs.FiniteSums.{IsSum}
use Rattle.hp_sums.proofs.merging.is_sum.Given as goal

abbrev pub invariant-loop-t : goal.invariant-loop-t
invariant-loop-t g l =
    let sum = IsSum (g.B.Basis.order l.basis) g.F.Ring.ring in record {
      same : sum l.rest ↔ sum l.terms;
      keys : All (λ t. g.B.Basis.IsKey t.0) l.rest → All (λ t. g.B.Basis.IsKey t.0) l.terms;
    }

abbrev pub decreases-loop-t : goal.decreases-loop-t
decreases-loop-t g l = length l.rest
