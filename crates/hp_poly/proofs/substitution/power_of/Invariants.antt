use Rattle.std.proofs.Common.{◌≡◌, ◌≤◌}
use Rattle.hp_algebra.specs.Ring.{power}
use Rattle.hp_poly.specs.Polynomials.{poly_degree, poly_ring}
use Rattle.hp_poly.proofs.substitution.power_of.Given as goal

abbrev pub invariant-loop : goal.invariant-loop
invariant-loop g l = record {
  value : l.value ≡ power (poly_ring g.F.Ring.ring) l.x l.counter;
  degree : poly_degree g.F.Ring.ring l.value ≤ l.counter;
}
