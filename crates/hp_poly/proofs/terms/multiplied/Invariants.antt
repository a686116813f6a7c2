use Rattle.std.proofs.Common.{◌+◌, ◌≤◌, length}
use Rattle.hp_mono.specs.Monomials.{max_degree}
use Rattle.hp_poly.specs.Polynomials.{poly_degree}
use Rattle.hp_poly.proofs.TermMultiples.{IsMultiplied}
use Rattle.hp_poly.proofs.terms.multiplied.Given as goal

abbrev pub invariant-loop-t : goal.invariant-loop-t
invariant-loop-t g l = record {
  degrees : poly_degree g.F.Ring.ring l.rest + poly_degree g.F.Ring.ring l.right ≤ max_degree;
  multiplied : IsMultiplied g.F.Ring.ring l.left l.right l.rest l.sum.items;
}

abbrev pub decreases-loop-t : goal.decreases-loop-t
decreases-loop-t g l = length l.rest
