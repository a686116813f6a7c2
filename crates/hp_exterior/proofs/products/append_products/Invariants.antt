use Rattle.std.proofs.Common.{◌≡◌, ◌++◌, length}
use Rattle.hp_exterior.specs.Exterior.{wedge_terms}
use Rattle.hp_exterior.proofs.products.append_products.Given as goal

abbrev pub invariant-loop-t : goal.invariant-loop-t
invariant-loop-t g l =
    l.out.items ++ wedge_terms g.F.Ring.ring l.fn.s l.fn.c l.rest ≡ l.fn.out.items ++ wedge_terms g.F.Ring.ring l.fn.s l.fn.c l.terms

abbrev pub decreases-loop-t : goal.decreases-loop-t
decreases-loop-t g l = length l.rest
