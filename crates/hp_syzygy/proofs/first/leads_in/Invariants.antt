use Rattle.std.proofs.Common.{◌≡◌, ◌<◌, ℕ, [], get_or, length}
use Rattle.hp_mono.specs.declared.term.Term.{Term}
use Rattle.hp_module.specs.ElimOrders.{elimination_order}
use Rattle.hp_module.specs.Leads.{IsGreatestTerm, no_term}
use Rattle.hp_syzygy.proofs.first.leads_in.Given as goal

-- the leads so far
abbrev pub invariant-loop-k : goal.invariant-loop-k
invariant-loop-k g l = record {
  count : length l.leads.items ≡ l.k;
  each : (j : ℕ) → j < l.k → (t : Term) (c : g.row.F.Denot) → IsGreatestTerm (elimination_order 0) (get_or l.vectors j []) t c
      → t ≡ get_or l.leads.items j no_term;
}
