use Rattle.std.proofs.Common.{◌≡◌, ◌<◌, ℕ, [], get_or, length}
use Rattle.hp_poly.specs.Polynomials.{Poly}
use Rattle.hp_module.proofs.parts.no_terms.Given as goal

abbrev pub invariant-loop : goal.invariant-loop
invariant-loop g l = record {
  long : length l.parts.items ≡ l.counter;
  each : (j : ℕ) (d : Poly g.row.F.Denot) → j < l.counter → get_or l.parts.items j d ≡ [];
}
