use Rattle.std.proofs.Common.{◌≡◌, ◌≤◌, ◌<◌, ◌+◌, ◌∙◌, [], get_or, length, ap, refl, sym, subst, arith}
use Rattle.std.proofs.lemmas.List.{get_or_default}
use Rattle.hp_mono.specs.Monomials.{degree, max_degree}
use Rattle.hp_poly.specs.Polynomials.{multiple, poly_degree}
use Rattle.hp_sums.proofs.Merges.{no_items}
use Rattle.hp_sums.specs.FiniteSums.{plus}
use Rattle.std.proofs.lemmas.Bool.{eqb-true}
use Rattle.hp_module.specs.FallingTerms.{IsFalling, component_order}
use Rattle.hp_module.proofs.HeldParts.{IsAdding, adding-end, adding-skip, adding-sum}
use Rattle.hp_module.proofs.steps.add_multiple.Goals as goal
use Rattle.hp_module.proofs.steps.add_multiple.Goals.{then-not-is_empty+in_ok-merge_multiple, else-not-is_empty}

pub loop-k-init : goal.loop-k-init
loop-k-init g c = record {
  falling = c.requires.rest;
  done = λ j h. absurd (omega (arith, h));
  kept = λ j h. refl;
}

pub merge_multiple-requires-clause-right : goal.merge_multiple-requires-clause-right
merge_multiple-requires-clause-right g c =
    let ring = g.F.Ring.ring in
    let cmp = g.O.TermOrder.order c.args.order.now in
    let width = g.O.TermOrder.components c.args.order.now in
    let order = g.met.O.TermOrder.lawful c.args.order.now c.width-width.ensures.of in
    let field = g.met.F.Field.field_laws in
    let parts = c.args.parts.now in
    let k = c.loop-k.k in
    let within : k < width = omega (arith, c.loop-k-test.true, c.requires.parts.long) in
    let here : get_or parts k [] ≡ c.as_slice-part.result.now =
    sym (get_or_default parts k c.index-parts-k.result [] (omega (arith, c.loop-k-test.true))) ∙ sym c.index-parts-k.is ∙ sym c.as_slice-part.ensures in
    subst (IsFalling ring cmp (k + 1)) here (c.requires.parts.each k within)

pub merge_multiple-requires-clause-degrees : goal.merge_multiple-requires-clause-degrees
merge_multiple-requires-clause-degrees g c =
    let ring = g.F.Ring.ring in
    let cmp = g.O.TermOrder.order c.args.order.now in
    let width = g.O.TermOrder.components c.args.order.now in
    let order = g.met.O.TermOrder.lawful c.args.order.now c.width-width.ensures.of in
    let field = g.met.F.Field.field_laws in
    let parts = c.args.parts.now in
    let k = c.loop-k.k in
    let within : k < width = omega (arith, c.loop-k-test.true, c.requires.parts.long) in
    let here : get_or parts k [] ≡ c.as_slice-part.result.now =
    sym (get_or_default parts k c.index-parts-k.result [] (omega (arith, c.loop-k-test.true))) ∙ sym c.index-parts-k.is ∙ sym c.as_slice-part.ensures in
    subst (λ p. degree c.args.m + poly_degree ring p ≤ max_degree) here (c.requires.degrees k within)

pub merge_multiple-requires-clause-left : goal.merge_multiple-requires-clause-left
merge_multiple-requires-clause-left g c =
    let ring = g.F.Ring.ring in
    let cmp = g.O.TermOrder.order c.args.order.now in
    let width = g.O.TermOrder.components c.args.order.now in
    let order = g.met.O.TermOrder.lawful c.args.order.now c.width-width.ensures.of in
    let field = g.met.F.Field.field_laws in
    let parts = c.args.parts.now in
    let k = c.loop-k.k in
    let within : k < width = omega (arith, c.loop-k-test.true, c.requires.parts.long) in
    let inside : k < length c.loop-k.rest.items = omega (arith, within, c.loop-k.invariant.falling.long) in
    let here : get_or c.loop-k.rest.items k [] ≡ c.as_slice.result.now =
    sym (get_or_default c.loop-k.rest.items k c.index.result.now [] inside) ∙ sym c.index.ensures ∙ sym c.as_slice.ensures in
    subst (IsFalling ring cmp (k + 1)) here (c.loop-k.invariant.falling.each k within)

pub loop-k-preserved : goal.loop-k-preserved
loop-k-preserved g c =
    let ring = g.F.Ring.ring in
    let cmp = g.O.TermOrder.order c.args.order.now in
    let width = g.O.TermOrder.components c.args.order.now in
    let order = g.met.O.TermOrder.lawful c.args.order.now c.width-width.ensures.of in
    let field = g.met.F.Field.field_laws in
    let parts = c.args.parts.now in
    let k = c.loop-k.k in
    let within : k < width = omega (arith, c.loop-k-test.true, c.requires.parts.long) in
    let inside : k < length c.loop-k.rest.items = omega (arith, within, c.loop-k.invariant.falling.long) in
    let part : get_or parts k [] ≡ c.as_slice-part.result.now =
    sym (get_or_default parts k c.index-parts-k.result [] (omega (arith, c.loop-k-test.true))) ∙ sym c.index-parts-k.is ∙ sym c.as_slice-part.ensures in
    let vc = c.is_nil-zero.ensures.of in
    let im = c.degree-degree.ensures.of.exponents in
    elim c.if-not-is_empty.branch [
      | then-not-is_empty+in_ok-merge_multiple w ↦
          let left : w.as_slice.result.now ≡ get_or c.loop-k.rest.items k [] =
          w.as_slice.ensures ∙ w.index.ensures ∙ get_or_default c.loop-k.rest.items k w.index.result.now [] inside in
          let sum = w.exchange.ensures ∙ w.in_ok-merge_multiple.ensures.value
          ∙ (λ i. plus (component_order cmp (k + 1)) ring (left i) (multiple ring c.args.c c.args.m (sym part i))) in
          adding-sum field cmp width order c.requires.parts within vc c.requires.nonzero im c.loop-k.invariant
          (subst (IsFalling ring cmp (k + 1)) (sym w.exchange.ensures) w.in_ok-merge_multiple.ensures.answer) sum (ap (λ v. v.items) w.rest-is)
      | else-not-is_empty w ↦
          let none : c.as_slice-part.result.now ≡ [] = no_items c.as_slice-part.result.now (eqb-true (length c.as_slice-part.result.now) 0 (sym (w.if-not-is_empty.ensures))) in
          subst (λ v. IsAdding ring cmp width c.args.c c.args.m c.args.rest.now.items parts (k + 1) v) (sym (ap (λ v. v.items) w.rest-is))
          (adding-skip field cmp width order c.requires.parts within vc im c.requires.rest c.loop-k.invariant (part ∙ none))
    ]

pub returns-clause-value : goal.returns-clause-value
returns-clause-value g c =
    let ring = g.F.Ring.ring in
    let cmp = g.O.TermOrder.order c.args.order.now in
    let width = g.O.TermOrder.components c.args.order.now in
    let order = g.met.O.TermOrder.lawful c.args.order.now c.width-width.ensures.of in
    let field = g.met.F.Field.field_laws in
    let parts = c.args.parts.now in
    let k = c.loop-k.k in
    adding-end field cmp width order c.requires.parts c.requires.rest (omega (arith, c.loop-k-test.false, c.requires.parts.long)) c.loop-k.invariant
