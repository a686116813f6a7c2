use Rattle.std.proofs.Common.{◌≤◌, ◌+◌, IfSome, length, drop}
use Rattle.hp_mono.specs.TermOrders.{IsTermWithin}
use Rattle.hp_module.specs.FreeModules.{terms_from}
use Rattle.hp_module.specs.LeadSearch.{IsGreatestOf}
use Rattle.hp_module.proofs.vector.ModVec.lead.Given as goal

abbrev pub invariant-loop-k : goal.invariant-loop-k
invariant-loop-k g l = record {
  long : l.k ≤ length l.entries;
  within : IfSome l.lead (λ t. IsTermWithin (g.O.TermOrder.components l.order) t.0);
  greatest : IsGreatestOf (g.O.TermOrder.order l.order) (terms_from {F = g.row.F.Denot} (l.k + 1) (drop l.k l.entries)) l.lead;
}
