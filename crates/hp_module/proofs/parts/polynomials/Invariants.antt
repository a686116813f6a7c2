use Rattle.std.proofs.Common.{◌≡◌, ◌<◌, ℕ, get_or, length}
use Rattle.hp_poly.specs.Polynomials.{Poly, poly_of}
use Rattle.hp_module.proofs.parts.polynomials.Given as goal

abbrev pub invariant-loop-k : goal.invariant-loop-k
invariant-loop-k g l = record {
  long : length l.entries.items ≡ l.k;
  each : (j : ℕ) (d : Poly g.row.F.Denot) → j < l.k → get_or l.entries.items j d ≡ poly_of g.F.Ring.ring (get_or l.parts j d);
}
