use Rattle.std.proofs.Common.{◌≡◌, ◌<◌, ℕ, get_or, length}
use Rattle.hp_poly.specs.Polynomials.{Poly, poly_times}
use Rattle.hp_module.proofs.vector.ModVecModulePoly.m_scale.Given as goal

abbrev pub invariant-loop-k : goal.invariant-loop-k
invariant-loop-k g l = record {
  long : length l.multiples.items ≡ l.k;
  each : (j : ℕ) (d : Poly g.row.F.Denot) → j < l.k
      → get_or l.multiples.items j d ≡ poly_times g.F.Ring.ring l.by (get_or l.entries j d);
}
