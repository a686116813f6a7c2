use Rattle.std.proofs.Common.{◌≡◌, ◌+◌, ◌∷◌, ◌∙◌, [], get_or, length, ap, sym, subst, arith}
use Rattle.std.specs.List.Sorted.{IsNonDecreasing}
use Rattle.std.proofs.lemmas.Bool.{eqb-true, eq-eqb}
use Rattle.std.proofs.lemmas.List.{get_or_default}
use Rattle.hp_lists.specs.Lists.{below}
use Rattle.hp_complex.specs.Complexes.{map_at}
use Rattle.hp_resolution.specs.Resolutions.{row_degrees}
use Rattle.hp_minres.specs.Reductions.{IsDegreeOrder}
use Rattle.hp_minres.proofs.LoopLists.{IsOrdering, ordering-start, ordering-more, ordering-end}
use Rattle.hp_minres.proofs.start.orders.Goals as goal

pub loop-k-init : goal.loop-k-init
loop-k-init g c =
    ordering-start c.args.frame.now c.in_ok-orders.orders.items
    (c.in_ok-orders.ensures ∙ ap (λ n. below n ∷ []) (c.cols-columns.ensures.value ∙ ap (λ m. m.cols) (c.map.ensures.value
    ∙ ap (λ ms. map_at ms 0) c.complex-complex.ensures.value)))

pub degree_order-requires : goal.degree_order-requires
degree_order-requires g c t =
    let f = c.args.frame.now in
    let k = c.loop-k.k in
    let row : c.as_slice-row.result.now ≡ row_degrees f k =
    c.as_slice-row.ensures ∙ c.index-all-k.is ∙ get_or_default c.degrees-all.result.now k c.index-all-k.result [] c.loop-k-test.true
    ∙ ap (λ ds. get_or ds k []) c.degrees-all.ensures.value in
    subst IsNonDecreasing (sym (row ∙ ap (row_degrees f) (eqb-true k 0 t))) c.requires

pub loop-k-preserved : goal.loop-k-preserved
loop-k-preserved g c =
    let f = c.args.frame.now in
    let k = c.loop-k.k in
    let x = c.in_ok-order.order in
    let row : c.as_slice-row.result.now ≡ row_degrees f k =
    c.as_slice-row.ensures ∙ c.index-all-k.is ∙ get_or_default c.degrees-all.result.now k c.index-all-k.result [] c.loop-k-test.true
    ∙ ap (λ ds. get_or ds k []) c.degrees-all.ensures.value in
    subst (IsOrdering f (k + 1)) (sym c.in_ok-push.ensures.items)
    (ordering-more f k c.loop-k.orders.items x c.loop-k.invariant (subst (λ ds. IsDegreeOrder ds x) row c.in_ok-order.ensures.order)
    (λ z. c.in_ok-order.ensures.kept (eq-eqb k 0 z) ∙ ap (λ ds. below (length ds)) row))

pub returns-clause-orders : goal.returns-clause-orders
returns-clause-orders g c =
    let f = c.args.frame.now in
    let k = c.loop-k.k in
    let e = ap length c.degrees-all.ensures.value in
    let one = c.degrees-all.ensures.of.resolution.one_each in
    let some = c.degrees-all.ensures.of.resolution.some_map in
    ordering-end f k c.loop-k.orders.items (omega (arith, c.loop-k-test.false, c.loop-k.auto.k-end, e, one))
    (omega (arith, c.loop-k-test.false, e, one, some)) c.loop-k.invariant
