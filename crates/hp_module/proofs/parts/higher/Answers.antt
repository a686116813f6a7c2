use Rattle.std.proofs.Common.{◌≡◌, ◌↔◌, ◌++◌, ◌∷◌, Bool, IsTrue, MatchOption, Some, sym, ap, subst}
use Rattle.std.specs.declared.cmp.Ordering.TheVariants.{Greater}
use Rattle.std.proofs.lemmas.List.Elements.{All-head}
use Rattle.hp_mono.specs.declared.term.Term.{Term}
use Rattle.hp_mono.specs.Monomials.{Monomial, IsMonomial}
use Rattle.hp_mono.specs.TermOrders.{IsTermWithin}
use Rattle.hp_module.specs.FallingTerms.{IsFalling}
use Rattle.hp_module.specs.LeadSearch.{IsGreatestOf, component_terms}
use Rattle.hp_module.proofs.ComponentOrders.{below-first, falling-rest, falling-within}
use Rattle.hp_module.proofs.GreatestSteps.{keep_greatest, take_greatest, widen_greatest}
use Rattle.hp_module.proofs.parts.higher.Goals as goal

pub returns-then-is_above-clause-greatest : goal.returns-then-is_above-clause-greatest
returns-then-is_above-clause-greatest g c =
    let T : Type 0 = Term × g.row.F.Denot in
    let width = g.O.TermOrder.components c.args.order.now in
    let cmp = g.O.TermOrder.order c.args.order.now in
    let order = g.met.O.TermOrder.lawful c.args.order.now c.width-width.ensures.of in
    let k = c.args.comp in
    let low = c.requires.counted in
    let high = c.requires.within in
    let field = g.met.F.Field.field_laws in
    let f = c.in-Some.first.now in
    let others = c.in-Some._others.now in
    let t : T = (record { mono = f.0; comp = k }, f.1) in
    let front : c.args.terms.now ≡ f ∷ others = c.in-Some.ensures.cases.0 in
    let falling = subst (IsFalling g.F.Ring.ring cmp k) front c.requires.falling in
    let here : IsTermWithin width t.0 = (All-head (λ (u : Monomial × g.row.F.Denot). IsMonomial u.0) f others falling.monomials, low, high) in
    let rest = component_terms k others in
    let within = falling-within width cmp order k low high field others (falling-rest width cmp order k low high field f others falling) in
    let below = below-first width cmp order k low high field f others falling in
    λ xs hx e.
    let test = subst (λ (b : Bool). MatchOption c.args.later (IsTrue b) (λ l. IsTrue b ↔ (cmp t.0 l.0 ≡ Greater))) c.if-is_above.true c.is_above.ensures in
    subst (λ zs. IsGreatestOf cmp zs (Some t)) (sym (ap (λ z. component_terms k z ++ xs) front))
    (widen_greatest order t rest xs (Some t) here within here below (take_greatest order t xs c.args.later here hx e test))

pub returns-else-is_above-clause-greatest : goal.returns-else-is_above-clause-greatest
returns-else-is_above-clause-greatest g c =
    let T : Type 0 = Term × g.row.F.Denot in
    let width = g.O.TermOrder.components c.args.order.now in
    let cmp = g.O.TermOrder.order c.args.order.now in
    let order = g.met.O.TermOrder.lawful c.args.order.now c.width-width.ensures.of in
    let k = c.args.comp in
    let low = c.requires.counted in
    let high = c.requires.within in
    let field = g.met.F.Field.field_laws in
    let f = c.in-Some.first.now in
    let others = c.in-Some._others.now in
    let t : T = (record { mono = f.0; comp = k }, f.1) in
    let front : c.args.terms.now ≡ f ∷ others = c.in-Some.ensures.cases.0 in
    let falling = subst (IsFalling g.F.Ring.ring cmp k) front c.requires.falling in
    let here : IsTermWithin width t.0 = (All-head (λ (u : Monomial × g.row.F.Denot). IsMonomial u.0) f others falling.monomials, low, high) in
    let rest = component_terms k others in
    let within = falling-within width cmp order k low high field others (falling-rest width cmp order k low high field f others falling) in
    let below = below-first width cmp order k low high field f others falling in
    λ xs hx e.
    let test = subst (λ (b : Bool). MatchOption c.args.later (IsTrue b) (λ l. IsTrue b ↔ (cmp t.0 l.0 ≡ Greater))) c.if-is_above.false c.is_above.ensures in
    subst (λ zs. IsGreatestOf cmp zs c.args.later) (sym (ap (λ z. component_terms k z ++ xs) front))
    (widen_greatest order t rest xs c.args.later here within c.requires.later below (keep_greatest order t xs c.args.later here hx e test))
