use Rattle.std.proofs.Common.{◌≢◌, All, refl, sym, subst, arith}
use Rattle.std.proofs.lemmas.List.Elements.{All-drop, All-take}
use Rattle.hp_mono.specs.Monomials.{Monomial, IsMonomial}
use Rattle.hp_sums.proofs.Collected.{sum-values}
use Rattle.hp_module.specs.FallingTerms.{IsFalling, component_order}
use Rattle.hp_module.proofs.CollectedParts.{poly_of-halves}
use Rattle.hp_module.specs.ComponentLaws.{component-same, component-total}
use Rattle.hp_module.proofs.ComponentOrders.{component_setting, falling-short, falling-terms, terms-values}
use Rattle.hp_module.proofs.merging.+sorted.Goals as goal
use Rattle.hp_module.proofs.merging.+sorted.Goals.{then-terms-le1-via-then-terms-le1, then-terms-le1-via-else-terms-le1+then-is_sum}

pub returns-then-terms-le1-clause-answer : goal.returns-then-terms-le1-clause-answer
returns-then-terms-le1-clause-answer g t c =
    let k = c.args.comp in
    let cmp = g.O.TermOrder.order c.args.order.now in
    let width = g.O.TermOrder.components c.args.order.now in
    let order = g.met.O.TermOrder.lawful c.args.order.now c.width-width.ensures.of in
    let low = c.requires.counted in
    let high = c.requires.within in
    let field = g.met.F.Field.field_laws in
    let terms = c.args.terms.now in
    let falling : IsFalling g.F.Ring.ring cmp k terms = elim c.then-terms-le1.branch [
      | then-terms-le1-via-then-terms-le1 w ↦
          falling-short width cmp order k low high field terms (omega (arith, w.if-terms-le1.true)) c.requires.terms
      | then-terms-le1-via-else-terms-le1+then-is_sum w ↦
          falling-terms width cmp order k low high field terms c.requires.terms (w.if-is_sum.ensures.sum.0 refl)
    ] in
    subst (IsFalling g.F.Ring.ring cmp k) (sym c.in_ok-few.ensures.items) falling

pub returns-clause-same : goal.returns-clause-same
returns-clause-same g t c =
    let k = c.args.comp in
    let ring = g.F.Ring.ring in
    let cmp = g.O.TermOrder.order c.args.order.now in
    let width = g.O.TermOrder.components c.args.order.now in
    let order = g.met.O.TermOrder.lawful c.args.order.now c.width-width.ensures.of in
    let low = c.requires.counted in
    let high = c.requires.within in
    let S = component_setting width cmp order k low high g.met.F.Ring.ring_laws g.met.F.CommRing.commutes in
    let P : Monomial × g.row.F.Denot → Type 0 = λ u. IsMonomial u.0 × ring.IsValue u.1 × (u.1 ≢ ring.zero) in
    let front = subst (All P) (sym c.split_at.ensures.front) (All-take P _ c.args.terms.now c.requires.terms) in
    let back = subst (All P) (sym c.split_at.ensures.back) (All-drop P _ c.args.terms.now c.requires.terms) in
    poly_of-halves g.met.F.Field.field_laws (component_order cmp k) (component-total width cmp order k low high) (component-same width cmp order k low high)
    c.args.terms.now _ (terms-values ring _ front) (terms-values ring _ back)
    (sum-values S _ c.in_ok-left.ensures.answer.is_sum) (sum-values S _ c.in_ok-right.ensures.answer.is_sum)
    c.split_at.ensures.front c.split_at.ensures.back c.in_ok-left.ensures.same c.in_ok-right.ensures.same
    c.as_slice.ensures.value c.as_slice-2.ensures.value c.in_ok-sum.ensures.value
