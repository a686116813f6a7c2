use Rattle.std.proofs.Common.{◌+◌, ◌∙◌}
use Rattle.std.specs.Ordering.{ordering_then}
use Rattle.hp_syzygy.specs.ChainOrders.{by_last}
use Rattle.hp_syzygy.proofs.LastNumbers.{product-grevlex}
use Rattle.hp_syzygy.proofs.order.compare_products.Goals as goal

pub returns : goal.returns
returns c =
    let a = c.args.a.now in
    let s = c.args.s.now in
    let b = c.args.b.now in
    let t = c.args.t.now in
    let la = c.exponent_sums-of_left.ensures in
    let lb = c.exponent_sums-of_right.ensures in
    let m = c.degree.result + c.degree-2.result in
    let n = c.degree-3.result + c.degree-4.result in
    c.then.ensures
    ∙ (λ i. ordering_then (c.cmp.ensures i) ((c.compare_by_last.ensures ∙ (λ j. by_last (lb j) (la j))) i))
    ∙ product-grevlex a s b t c.degree.ensures.of.exponents c.degree-2.ensures.of.exponents c.degree-3.ensures.of.exponents c.degree-4.ensures.of.exponents m n
    (λ i. c.degree.ensures.value i + c.degree-2.ensures.value i) (λ i. c.degree-3.ensures.value i + c.degree-4.ensures.value i)
