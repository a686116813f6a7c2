use Rattle.std.proofs.Common.{◌≡◌, ◌++◌, length}
use Rattle.hp_sets.specs.Sets.{IsSetWithin}
use Rattle.hp_sums.proofs.WeightedSums.{scaled}
use Rattle.hp_os.specs.Straightening.{straight_terms}
use Rattle.hp_os.proofs.terms.append_straight.Given as goal

abbrev pub invariant-loop-b : goal.invariant-loop-b
invariant-loop-b g l =
    let ring = g.K.Ring.ring in
    record {
      set : IsSetWithin 64 l.rest;
      same : l.out.items ++ scaled ring l.c (straight_terms ring l.s l.i l.rest) ≡ l.fn.out.items ++ scaled ring l.c (straight_terms ring l.s l.i l.fn.part);
    }

abbrev pub decreases-loop-b : goal.decreases-loop-b
decreases-loop-b g l = length l.rest
