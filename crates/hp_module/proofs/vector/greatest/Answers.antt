use Rattle.std.proofs.Common.{◌≡◌, ◌↔◌, ◌∙◌, ◌+◌, ◌-◌, ◌++◌, ◌∷◌, All, Bool, IsTrue, MatchOption, Some, drop, sym, ap, subst, arith}
use Rattle.std.specs.declared.cmp.Ordering.TheVariants.{Greater}
use Rattle.std.proofs.lemmas.List.{drop_more}
use Rattle.std.proofs.lemmas.List.Elements.{All-append, All-drop, All-map, All-weaker}
use Rattle.hp_mono.specs.declared.term.Term.{Term}
use Rattle.hp_mono.specs.Monomials.{Monomial, IsMonomial}
use Rattle.hp_mono.specs.TermOrders.{IsTermWithin}
use Rattle.hp_module.specs.LeadSearch.{IsGreatestOf, component_terms}
use Rattle.hp_module.proofs.GreatestSteps.{keep_greatest, take_greatest}
use Rattle.hp_module.proofs.vector.greatest.Goals as goal

pub loop-k-preserved-then-is_above : goal.loop-k-preserved-then-is_above
loop-k-preserved-then-is_above g c =
    let T : Type 0 = Term × g.row.F.Denot in
    let width = g.O.TermOrder.components c.args.order.now in
    let cmp = g.O.TermOrder.order c.args.order.now in
    let order = g.met.O.TermOrder.lawful c.args.order.now c.width-width.ensures.of in
    let comp = c.args.comp in
    let ts = c.args.terms.now in
    let m = c.loop-k.k in
    let k = m - 1 in
    let x = c.index-terms-k.result in
    let t : T = (record { mono = x.0; comp = comp }, x.1) in
    let front : drop k ts ≡ x ∷ drop m ts =
    drop_more ts k x (omega (arith, c.loop-k.invariant.long)) ∙ (λ i. sym c.index-terms-k.is i ∷ drop (k + 1) ts) ∙ ap (λ n. x ∷ drop n ts) (omega arith) in
    let here : IsTermWithin width t.0 = (subst (λ (s : Monomial × g.row.F.Denot). IsMonomial s.0) (sym c.index-terms-k.is) (c.requires.monomials k x (omega (arith, c.loop-k.invariant.long))), c.requires.counted, c.requires.within) in
    let W : T → Type 0 = λ s. IsTermWithin width s.0 in
    let rest : All W (component_terms comp (drop m ts)) =
    All-map W (λ s. (record { mono = s.0; comp = comp }, s.1)) (drop m ts) (All-weaker (λ (s : Monomial × g.row.F.Denot). IsMonomial s.0)
    (λ s. IsTermWithin width (record { mono = s.0; comp = comp })) (λ s i. (i, c.requires.counted, c.requires.within)) (drop m ts)
    (All-drop (λ (s : Monomial × g.row.F.Denot). IsMonomial s.0) m ts c.requires.monomials)) in
    let test = subst (λ (b : Bool). MatchOption c.loop-k.lead (IsTrue b) (λ l. IsTrue b ↔ (cmp t.0 l.0 ≡ Greater))) c.if-is_above.true c.is_above.ensures in
    record {
      long = omega (arith, c.loop-k.invariant.long);
      within = here;
      greatest = λ xs hx e.
          subst (λ zs. IsGreatestOf cmp zs (Some t)) (sym (ap (λ z. component_terms comp z ++ xs) front))
          (take_greatest order t (component_terms comp (drop m ts) ++ xs) c.loop-k.lead here (All-append W _ xs rest hx)
          (c.loop-k.invariant.greatest xs hx e) test);
    }

pub loop-k-preserved : goal.loop-k-preserved
loop-k-preserved g c =
    let T : Type 0 = Term × g.row.F.Denot in
    let width = g.O.TermOrder.components c.args.order.now in
    let cmp = g.O.TermOrder.order c.args.order.now in
    let order = g.met.O.TermOrder.lawful c.args.order.now c.width-width.ensures.of in
    let comp = c.args.comp in
    let ts = c.args.terms.now in
    let m = c.loop-k.k in
    let k = m - 1 in
    let x = c.index-terms-k.result in
    let t : T = (record { mono = x.0; comp = comp }, x.1) in
    let front : drop k ts ≡ x ∷ drop m ts =
    drop_more ts k x (omega (arith, c.loop-k.invariant.long)) ∙ (λ i. sym c.index-terms-k.is i ∷ drop (k + 1) ts) ∙ ap (λ n. x ∷ drop n ts) (omega arith) in
    let here : IsTermWithin width t.0 = (subst (λ (s : Monomial × g.row.F.Denot). IsMonomial s.0) (sym c.index-terms-k.is) (c.requires.monomials k x (omega (arith, c.loop-k.invariant.long))), c.requires.counted, c.requires.within) in
    let W : T → Type 0 = λ s. IsTermWithin width s.0 in
    let rest : All W (component_terms comp (drop m ts)) =
    All-map W (λ s. (record { mono = s.0; comp = comp }, s.1)) (drop m ts) (All-weaker (λ (s : Monomial × g.row.F.Denot). IsMonomial s.0)
    (λ s. IsTermWithin width (record { mono = s.0; comp = comp })) (λ s i. (i, c.requires.counted, c.requires.within)) (drop m ts)
    (All-drop (λ (s : Monomial × g.row.F.Denot). IsMonomial s.0) m ts c.requires.monomials)) in
    let test = subst (λ (b : Bool). MatchOption c.loop-k.lead (IsTrue b) (λ l. IsTrue b ↔ (cmp t.0 l.0 ≡ Greater))) c.if-is_above.false c.is_above.ensures in
    record {
      long = omega (arith, c.loop-k.invariant.long);
      within = c.loop-k.invariant.within;
      greatest = λ xs hx e.
          subst (λ zs. IsGreatestOf cmp zs c.loop-k.lead) (sym (ap (λ z. component_terms comp z ++ xs) front))
          (keep_greatest order t (component_terms comp (drop m ts) ++ xs) c.loop-k.lead here (All-append W _ xs rest hx)
          (c.loop-k.invariant.greatest xs hx e) test);
    }
