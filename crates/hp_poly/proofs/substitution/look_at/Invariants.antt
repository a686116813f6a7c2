use Rattle.std.proofs.Common.{◌<◌, ℕ, get_or}
use Rattle.hp_poly.specs.Polynomials.{IsPoly, Poly}
use Rattle.hp_poly.proofs.substitution.look_at.Given as goal

abbrev pub invariant-loop-k : goal.invariant-loop-k
invariant-loop-k g l = (j : ℕ) (d : Poly g.row.F.Denot) → j < l.k → IsPoly g.F.Ring.ring (get_or l.xs j d)
