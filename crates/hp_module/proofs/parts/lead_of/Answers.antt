use Rattle.std.proofs.Common.{◌≡◌, ◌∙◌, ◌+◌, ◌-◌, ◌∷◌, [], get_or, drop, sym, ap, subst, arith}
use Rattle.std.proofs.lemmas.List.{drop_more, get_or_default}
use Rattle.hp_module.specs.FreeModules.{terms_from}
use Rattle.hp_module.specs.LeadSearch.{IsGreatestOf}
use Rattle.hp_module.proofs.EntryTerms.{terms_drop}
use Rattle.hp_module.proofs.HeldParts.{first_from, parts-within}
use Rattle.hp_module.proofs.parts.lead_of.Goals as goal

pub loop-k-preserved : goal.loop-k-preserved
loop-k-preserved g c =
    let parts = c.args.parts.now in
    let width = g.O.TermOrder.components c.args.order.now in
    let cmp = g.O.TermOrder.order c.args.order.now in
    let m = c.loop-k.k in
    let k = m - 1 in
    let x = c.index-parts-k.result in
    let next : k + 1 ≡ m = omega arith in
    let inside = c.loop-k.invariant.long in
    let front : drop k parts ≡ x ∷ drop m parts =
    drop_more parts k x (omega (arith, inside)) ∙ (λ i. sym c.index-parts-k.is i ∷ drop (k + 1) parts) ∙ ap (λ n. x ∷ drop n parts) next in
    let here : get_or parts k [] ≡ c.as_slice.result.now =
    sym (get_or_default parts k x [] (omega (arith, inside))) ∙ sym c.index-parts-k.is ∙ sym c.as_slice.ensures in
    record {
      long = omega (arith, inside);
      within = c.higher-lead.ensures.within;
      first = first_from parts c.loop-k.lead c.higher-lead.result k c.higher-lead.ensures.first c.loop-k.invariant.first here;
      greatest =
          subst (λ xs. IsGreatestOf cmp xs c.higher-lead.result)
          (sym (terms_drop parts k m next front c.as_slice.ensures))
          (c.higher-lead.ensures.greatest (terms_from (m + 1) (drop m parts)) (parts-within g.F.Ring.ring cmp width parts m c.requires) c.loop-k.invariant.greatest);
    }
