use Rattle.std.proofs.Common.{◌≡◌, ◌<◌, ℕ, [], get_or, length}
use Rattle.hp_module.specs.ElimOrders.{elimination_order}
use Rattle.hp_module.specs.Leads.{IsGreatestTerm, no_term}
use Rattle.hp_der.proofs.prepared.leads_of.Given as goal

abbrev pub invariant-loop-k : goal.invariant-loop-k
invariant-loop-k g l = record {
  long : length l.leads.items ≡ l.k;
  each : (i : ℕ) → i < l.k → (c : g.row.F.Denot) × IsGreatestTerm (elimination_order l.order.split) (get_or l.members i []) (get_or l.leads.items i no_term) c;
}
