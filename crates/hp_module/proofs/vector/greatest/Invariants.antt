use Rattle.std.proofs.Common.{◌≤◌, ◌++◌, List, All, IfSome, length, drop}
use Rattle.hp_mono.specs.declared.term.Term.{Term}
use Rattle.hp_mono.specs.TermOrders.{IsTermWithin}
use Rattle.hp_module.specs.LeadSearch.{IsGreatestOf, component_terms}
use Rattle.hp_module.proofs.vector.greatest.Given as goal

abbrev pub invariant-loop-k : goal.invariant-loop-k
invariant-loop-k g l =
    let width = g.O.TermOrder.components l.order in
    let cmp = g.O.TermOrder.order l.order in record {
      long : l.k ≤ length l.terms;
      within : IfSome l.lead (λ t. IsTermWithin width t.0);
      greatest : (xs : List (Term × g.row.F.Denot)) → All (λ t. IsTermWithin width t.0) xs → IsGreatestOf cmp xs l.fn.later
          → IsGreatestOf cmp (component_terms l.comp (drop l.k l.terms) ++ xs) l.lead;
    }
