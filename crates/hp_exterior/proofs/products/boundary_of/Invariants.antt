use Rattle.std.proofs.Common.{◌≡◌, ◌++◌, flat_map, length}
use Rattle.hp_exterior.specs.Exterior.{boundary_terms}
use Rattle.hp_exterior.proofs.products.boundary_of.Given as goal

abbrev pub invariant-loop-t : goal.invariant-loop-t
invariant-loop-t g l =
    l.out.items ++ flat_map (λ t. boundary_terms g.F.Ring.ring t.0 t.1) l.rest
    ≡ flat_map (λ t. boundary_terms g.F.Ring.ring t.0 t.1) l.terms

abbrev pub decreases-loop-t : goal.decreases-loop-t
decreases-loop-t g l = length l.rest
