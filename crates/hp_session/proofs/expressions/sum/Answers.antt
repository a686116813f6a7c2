use Rattle.std.proofs.Common.{[], ◌∷◌, ◌++◌, map, sym, ap, ◌∙◌, subst, append_assoc, append-nil}
use Rattle.std.proofs.lemmas.List.{map-append}
use Rattle.std.proofs.lemmas.List.Elements.{All-head, All-tail, All-push}
use Rattle.hp_exterior.specs.Exterior.{monomial}
use Rattle.hp_sums.specs.FiniteSums.{HasValues}
use Rattle.hp_sums.proofs.Merges.{no_items}
use Rattle.hp_session.specs.Expressions.{AreIndices, HaveIndices, product_value}
use Rattle.hp_session.proofs.ExpressionValues.{value-terms}
use Rattle.hp_session.proofs.expressions.sum.Goals as goal

pub term-requires : goal.term-requires
term-requires g c =
    All-head (λ p. AreIndices p.generators) c.in-Some.product.now c.in-Some.more.now
    (subst HaveIndices c.in-Some.ensures.cases.0 c.loop-product.invariant.indices)

pub loop-product-preserved : goal.loop-product-preserved
loop-product-preserved g c =
    let ring = g.K.Ring.ring in
    let terms = c.loop-product.terms.items in
    let t = c.term.result in
    let p = c.in-Some.product.now in
    let more = c.in-Some.more.now in
    let pushed = c.in_ok-push.ensures.items in
    let later = map (product_value ring) more in
    record {
      indices = All-tail (λ p. AreIndices p.generators) p more (subst HaveIndices c.in-Some.ensures.cases.0 c.loop-product.invariant.indices);
      values = subst (HasValues ring) (sym pushed) (All-push (λ u. ring.IsValue u.1) terms t c.loop-product.invariant.values c.term.ensures.answer);
      each =
          ap (λ ts. map (λ u. monomial ring u.1 u.0) ts ++ later) pushed
          ∙ ap (λ ts. ts ++ later) (map-append (λ u. monomial ring u.1 u.0) terms (t ∷ []))
          ∙ append_assoc (map (λ u. monomial ring u.1 u.0) terms) (monomial ring t.1 t.0 ∷ []) later
          ∙ ap (λ x. map (λ u. monomial ring u.1 u.0) terms ++ x ∷ later) c.term.ensures.value
          ∙ ap (λ ps. map (λ u. monomial ring u.1 u.0) terms ++ map (product_value ring) ps) (sym c.in-Some.ensures.cases.0)
          ∙ c.loop-product.invariant.each;
    }

pub returns : goal.returns
returns g c =
    let ring = g.K.Ring.ring in
    let terms = c.loop-product.terms.items in
    let ts = map (λ t. monomial ring t.1 t.0) terms in
    c.in_ok-value.ensures
    ∙ value-terms g.met.K.Ring.ring_laws g.met.K.CommRing.commutes terms c.args.products.now c.loop-product.invariant.values
    (sym (append-nil ts) ∙ ap (λ ps. ts ++ map (product_value ring) ps) (sym (no_items c.loop-product.rest.now c.in_default.ensures.cases)) ∙ c.loop-product.invariant.each)
