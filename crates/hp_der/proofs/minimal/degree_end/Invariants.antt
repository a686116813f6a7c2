use Rattle.std.proofs.Common.{◌≡◌, ◌<◌, ◌≤◌, ℕ, get_or}
use Rattle.hp_mono.specs.Monomials.{degree}
use Rattle.hp_module.specs.Leads.{no_term}
use Rattle.hp_der.proofs.minimal.degree_end.Given as goal

abbrev pub invariant-loop-k : goal.invariant-loop-k
invariant-loop-k l = record {
  low : l.start < l.k;
  same : (j : ℕ) → l.start ≤ j → j < l.k
      → degree (get_or l.leads j no_term).mono ≡ degree (get_or l.leads l.start no_term).mono;
}
