use Rattle.std.proofs.Common.{◌<◌, ℕ, get_or}
use Rattle.hp_mono.specs.Monomials.{Monomial, Divides}
use Rattle.hp_module.proofs.divisors.Divisors.divisor.Given as goal

abbrev pub invariant-loop-k : goal.invariant-loop-k
invariant-loop-k g l = (j : ℕ) (u : Monomial × ℕ) → j < l.k → ¬ (Divides (get_or l.listed j u).0 l.t.mono)
