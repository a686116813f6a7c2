use Rattle.std.proofs.Common.{◌≡◌, ◌∷◌, ◌∙◌, ℕ, [], get_or, length, ap, sym, subst, arith}
use Rattle.std.proofs.lemmas.List.{get_or_default, length-append}
use Rattle.hp_mono.specs.declared.term.Term.{Term}
use Rattle.hp_module.specs.ElimOrders.{elimination_order}
use Rattle.hp_module.specs.Leads.{IsGreatestTerm, no_term}
use Rattle.hp_module.proofs.HeldParts.{pushed}
use Rattle.hp_syzygy.proofs.first.leads_in.Goals as goal

pub loop-k-preserved : goal.loop-k-preserved
loop-k-preserved g c =
    let vectors = c.args.vectors.now in
    let k = c.loop-k.k in
    let old = c.loop-k.leads.items in
    let new = c.push.new.self.items in
    let t = c.lead_in.result in
    let x = c.index-vectors-k.result in
    let items = c.in_ok-push.ensures.items in
    let Lead : ℕ → Term → Type 0 = λ j u. (s : Term) (a : g.row.F.Denot) → IsGreatestTerm (elimination_order 0) (get_or vectors j []) s a → s ≡ u in
    let here : Lead k t = λ s a gt. c.lead_in.ensures s a (subst (λ v. IsGreatestTerm (elimination_order 0) v s a) (get_or_default vectors k [] x c.loop-k-test.true ∙ sym c.index-vectors-k.is) gt) in
    record {
      count = omega (arith, ap length items, length-append old (t ∷ []), c.loop-k.invariant.count);
      each = λ j l s a gt. pushed no_term Lead old new t k items c.loop-k.invariant.count (λ m n b d h. c.loop-k.invariant.each m n b d h) here j l s a gt;
    }

pub returns : goal.returns
returns g c =
    let n = length c.args.vectors.now in
    let end : c.loop-k.k ≡ n = omega (arith, c.loop-k-test.false, c.loop-k.auto.k-end) in
    record {
      one_each = c.loop-k.invariant.count ∙ end;
      greatest = λ i t a l gt. c.loop-k.invariant.each i (omega (arith, l, end)) t a gt;
    }
