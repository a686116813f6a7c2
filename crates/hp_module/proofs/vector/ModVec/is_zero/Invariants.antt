use Rattle.std.proofs.Common.{◌≡◌, ◌<◌, ℕ, [], get_or}
use Rattle.hp_poly.specs.Polynomials.{Poly}
use Rattle.hp_module.proofs.vector.ModVec.is_zero.Given as goal

abbrev pub invariant-loop-k : goal.invariant-loop-k
invariant-loop-k g l = (j : ℕ) (d : Poly g.row.F.Denot) → j < l.k → get_or l.entries j d ≡ []
