use Rattle.std.proofs.Common.{◌≡◌, ◌≤◌, drop, length}
use Rattle.hp_poly.specs.Polynomials.{poly_value}
use Rattle.hp_poly.proofs.value.terms_value.Given as goal

abbrev pub invariant-loop-k : goal.invariant-loop-k
invariant-loop-k g l = record {
  within : l.k ≤ length l.terms;
  value : l.value ≡ poly_value g.F.Ring.ring l.point (drop l.k l.terms);
  answer : g.F.Ring.ring.IsValue l.value;
}
