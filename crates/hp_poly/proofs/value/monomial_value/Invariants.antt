use Rattle.std.proofs.Common.{◌≡◌, ◌≤◌, drop, length, min}
use Rattle.hp_mono.specs.Monomials.{vars}
use Rattle.hp_poly.specs.Polynomials.{monomial_value}
use Rattle.hp_poly.proofs.value.monomial_value.Given as goal

abbrev pub invariant-loop-k : goal.invariant-loop-k
invariant-loop-k g l = record {
  within : l.k ≤ min (length l.point) vars;
  value : l.value ≡ monomial_value g.F.Ring.ring (drop l.k l.point) (drop l.k l.m);
}
