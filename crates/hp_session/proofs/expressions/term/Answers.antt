use Rattle.std.proofs.Common.{cond, sym, ap, ◌∙◌}
use Rattle.hp_exterior.specs.Exterior.{monomial}
use Rattle.hp_os.specs.OrlikSolomon.{multiple}
use Rattle.hp_session.specs.Expressions.{number_product, generator_product}
use Rattle.hp_session.proofs.ExpressionValues.{multiple-term}
use Rattle.hp_session.proofs.expressions.term.Goals as goal

pub returns-then-product-clause-value : goal.returns-then-product-clause-value
returns-then-product-clause-value g c =
    let ring = g.K.Ring.ring in
    let p = c.args.product.now in
    let set = c.generator_product-set.result.0 in
    let factor = c.generator_product-set.result.1 in
    let number = c.number_product-number.ensures.value ∙ ap (number_product ring) c.as_slice-2.ensures in
    let generators = c.generator_product-set.ensures.value ∙ ap (generator_product ring) c.as_slice.ensures in
    ap (λ x. monomial ring x set) c.times.ensures.value
    ∙ sym (multiple-term g.met.K.Ring.ring_laws g.met.K.CommRing.commutes c.negate.result factor set c.negate.ensures.answer c.generator_product-set.ensures.answer c.generator_product-set.ensures.set)
    ∙ (λ i. multiple ring ((c.negate.ensures.value ∙ ap ring.neg number) i) (generators i))
    ∙ ap (λ b. multiple ring (cond b (ring.neg (number_product ring p.numbers)) (number_product ring p.numbers)) (generator_product ring p.generators)) (sym c.if-product.true)

pub returns-clause-value : goal.returns-clause-value
returns-clause-value g c =
    let ring = g.K.Ring.ring in
    let p = c.args.product.now in
    let set = c.generator_product-set.result.0 in
    let factor = c.generator_product-set.result.1 in
    let number = c.number_product-number.ensures.value ∙ ap (number_product ring) c.as_slice-2.ensures in
    let generators = c.generator_product-set.ensures.value ∙ ap (generator_product ring) c.as_slice.ensures in
    ap (λ x. monomial ring x set) c.times-2.ensures.value
    ∙ sym (multiple-term g.met.K.Ring.ring_laws g.met.K.CommRing.commutes c.number_product-number.result factor set c.number_product-number.ensures.answer c.generator_product-set.ensures.answer c.generator_product-set.ensures.set)
    ∙ (λ i. multiple ring (number i) (generators i))
    ∙ ap (λ b. multiple ring (cond b (ring.neg (number_product ring p.numbers)) (number_product ring p.numbers)) (generator_product ring p.generators)) (sym c.if-product.false)
