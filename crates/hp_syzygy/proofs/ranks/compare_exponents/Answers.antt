use Rattle.std.proofs.Common.{◌≡◌, ◌∙◌, ap, sym}
use Rattle.hp_mono.specs.Monomials.{product}
use Rattle.hp_mono.proofs.MonomialLaws.{product-one}
use Rattle.hp_syzygy.specs.ChainOrders.{by_last}
use Rattle.hp_syzygy.proofs.LastNumbers.{last-reverse}
use Rattle.hp_syzygy.proofs.ranks.compare_exponents.Goals as goal

pub returns : goal.returns
returns c =
    let a = c.args.a.now in
    let b = c.args.b.now in
    let ia = c.degree.ensures.of.exponents in
    let ib = c.degree-2.ensures.of.exponents in
    let ea : c.exponent_sums-of_a.result ≡ a = c.exponent_sums-of_a.ensures ∙ ap (λ m. product m a) c.one-one.ensures.value ∙ product-one a ia in
    let eb : c.exponent_sums-of_b.result ≡ b = c.exponent_sums-of_b.ensures ∙ ap (λ m. product m b) c.one-one.ensures.value ∙ product-one b ib in
    c.compare_by_last.ensures ∙ (λ i. by_last (ea i) (eb i)) ∙ sym (last-reverse a b (ia ∙ sym ib))
