use Rattle.std.proofs.Common.{◌≡◌}
use Rattle.hp_algebra.specs.Ring.{power}
use Rattle.hp_poly.specs.Polynomials.{IsPoly, poly_ring, poly_times}
use Rattle.hp_poly.proofs.division.divided_by_power.Given as goal

abbrev pub invariant-loop : goal.invariant-loop
invariant-loop g l = record {
  answer : IsPoly g.F.Ring.ring l.quotient;
  value : l.p ≡ poly_times g.F.Ring.ring (power (poly_ring g.F.Ring.ring) l.by l.counter) l.quotient;
}
