use Rattle.std.proofs.Common.{◌≡◌, ◌≤◌, drop, length, min, sum}
use Rattle.hp_mono.specs.Monomials.{vars}
use Rattle.hp_poly.specs.Polynomials.{monomial_value, poly_degree, poly_ring}
use Rattle.hp_poly.proofs.substitution.image_of.Given as goal

abbrev pub invariant-loop-k : goal.invariant-loop-k
invariant-loop-k g l = record {
  within : l.k ≤ min (length l.xs) vars;
  value : l.value ≡ monomial_value (poly_ring g.F.Ring.ring) (drop l.k l.xs) (drop l.k l.m);
  degree : poly_degree g.F.Ring.ring l.value ≤ sum (drop l.k l.m);
}
