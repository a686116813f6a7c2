use Rattle.std.proofs.Common.{◌≡◌, ◌++◌, flat_map, length}
use Rattle.hp_exterior.specs.Exterior.{wedge_terms}
use Rattle.hp_exterior.proofs.products.multiplied.Given as goal

abbrev pub invariant-loop-t : goal.invariant-loop-t
invariant-loop-t g l =
    l.out.items ++ flat_map (λ t. wedge_terms g.F.Ring.ring t.0 t.1 l.right) l.rest
    ≡ flat_map (λ t. wedge_terms g.F.Ring.ring t.0 t.1 l.right) l.left

abbrev pub decreases-loop-t : goal.decreases-loop-t
decreases-loop-t g l = length l.rest
