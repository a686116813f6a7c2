use Rattle.std.proofs.Common.{◌≡◌, ◌≤◌, ◌+◌, ◌-◌, ◌∷◌, [], IfSome, get_or, length, drop}
use Rattle.hp_mono.specs.TermOrders.{IsTermWithin}
use Rattle.hp_poly.specs.Polynomials.{Poly}
use Rattle.hp_module.specs.FreeModules.{terms_from}
use Rattle.hp_module.specs.LeadSearch.{IsGreatestOf}
use Rattle.hp_module.proofs.parts.lead_of.Given as goal

abbrev pub invariant-loop-k : goal.invariant-loop-k
invariant-loop-k g l = record {
  long : l.k ≤ length l.parts;
  within : IfSome l.lead (λ t. IsTermWithin (g.O.TermOrder.components l.order) t.0);
  first : IfSome l.lead (λ t. (p : Poly g.row.F.Denot) × (get_or l.parts (t.0.comp - 1) [] ≡ (t.0.mono, t.1) ∷ p));
  greatest : IsGreatestOf (g.O.TermOrder.order l.order) (terms_from {F = g.row.F.Denot} (l.k + 1) (drop l.k l.parts)) l.lead;
}
