use Rattle.std.proofs.Common.{◌≡◌, ◌∙◌, ◌<◌, ◌+◌, ◌∷◌, [], length, get_or, ap, subst, arith}
use Rattle.std.proofs.lemmas.List.{get_or_default, length-append}
use Rattle.hp_module.specs.Leads.{IsGreatestTerm, no_term}
use Rattle.hp_module.specs.ElimOrders.{elimination_order}
use Rattle.hp_module.proofs.HeldParts.{pushed}
use Rattle.hp_der.proofs.prepared.leads_of.Goals as goal

pub loop-k-preserved : goal.loop-k-preserved
loop-k-preserved g c =
    let xs = c.args.members.now in
    let k = c.loop-k.k in
    let x = c.index-members-k.result in
    let l : k < length xs = omega (arith, c.loop-k-test.true, c.loop-k.auto.k-end) in
    let at : x ≡ get_or xs k [] = c.index-members-k.is ∙ get_or_default xs k x [] l in
    let long = length-append c.loop-k.leads.items (c.lead_of.result ∷ []) in
    record {
      long = ap length c.in_ok-push.ensures.items ∙ long ∙ ap (λ n. n + 1) c.loop-k.invariant.long;
      each = pushed no_term (λ i t. (y : g.row.F.Denot) × IsGreatestTerm (elimination_order c.args.order.now.split) (get_or xs i []) t y)
          c.loop-k.leads.items _ c.lead_of.result k c.in_ok-push.ensures.items c.loop-k.invariant.long c.loop-k.invariant.each
          (c.lead_of.ensures.0, subst (λ v. IsGreatestTerm (elimination_order c.args.order.now.split) v c.lead_of.result c.lead_of.ensures.0) at c.lead_of.ensures.1);
    }

pub returns-clause-leads : goal.returns-clause-leads
returns-clause-leads g c = λ i l. c.loop-k.invariant.each i (omega (arith, l, c.loop-k-test.false, c.loop-k.auto.k-end))
