use Rattle.std.proofs.Common.{◌≡◌, ◌<◌, ℕ, get_or, length}
use Rattle.hp_poly.specs.Polynomials.{Poly, poly_plus}
use Rattle.hp_module.proofs.vector.ModVecModulePoly.m_add.Given as goal

abbrev pub invariant-loop-k : goal.invariant-loop-k
invariant-loop-k g l = record {
  long : length l.sums.items ≡ l.k;
  each : (j : ℕ) (d : Poly g.row.F.Denot) → j < l.k
      → get_or l.sums.items j d ≡ poly_plus g.F.Ring.ring (get_or l.left j d) (get_or l.right j d);
}
