use Rattle.std.proofs.Common.{ℕ, ◌<◌}
use Rattle.hp_module.specs.CriticalPairs.{lcm_degree}
use Rattle.hp_groebner.specs.PairQueues.{IsCompanion, nth}
use Rattle.hp_groebner.proofs.cofactors.is_high_with.Given as goal

abbrev pub invariant-loop-j : goal.invariant-loop-j
invariant-loop-j l = (j : ℕ) → j < l.j → IsCompanion l.leads l.t j → ¬ (l.limit < lcm_degree (nth l.leads j, l.t))
