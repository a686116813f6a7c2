use Rattle.std.proofs.Common.{◌≡◌, ◌≤◌, ◌+◌, [], Contains, MatchOption, length, drop}
use Rattle.hp_mono.specs.declared.term.Term.{Term}
use Rattle.hp_module.specs.FreeModules.{term_degree, terms_from}
use Rattle.hp_module.proofs.vector.degree_of_first.Given as goal

abbrev pub invariant-loop-k : goal.invariant-loop-k
invariant-loop-k g l =
    let later = terms_from {F = g.row.F.Denot} (l.k + 1) (drop l.k l.entries) in record {
      long : l.k ≤ length l.entries;
      degree : MatchOption l.degree (later ≡ []) (λ d. (t : Term × g.row.F.Denot) × Contains later t × (term_degree l.shifts t.0 ≡ d));
    }
