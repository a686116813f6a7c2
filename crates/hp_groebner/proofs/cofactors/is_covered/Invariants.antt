use Rattle.std.proofs.Common.{ℕ, ◌<◌, get_or}
use Rattle.hp_mono.specs.Monomials.{Divides, one}
use Rattle.hp_groebner.proofs.cofactors.is_covered.Given as goal

abbrev pub invariant-loop-k : goal.invariant-loop-k
invariant-loop-k l = (k : ℕ) → k < l.k → ¬ (Divides (get_or l.kept k (one, 0)).0 l.q)
