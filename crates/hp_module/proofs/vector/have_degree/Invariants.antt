use Rattle.std.proofs.Common.{◌≡◌, ◌<◌, ◌+◌, ℕ, [], All, get_or}
use Rattle.hp_mono.specs.Monomials.{degree}
use Rattle.hp_module.proofs.vector.have_degree.Given as goal

abbrev pub invariant-loop-k : goal.invariant-loop-k
invariant-loop-k g l = (j : ℕ) → j < l.k → All (λ t. degree t.0 + get_or l.shifts j 0 ≡ l.degree) (get_or l.entries j [])
