use Rattle.std.proofs.Common.{sym, ◌∙◌, inl, inr}
use Rattle.std.proofs.lemmas.Bool.{false≢true}
use Rattle.hp_algebra.proofs.Rings.{product_test}
use Rattle.hp_algebra.proofs.values.product_is_zero.Goals as goal

pub returns-then-left_is_zero-clause-product : goal.returns-then-left_is_zero-clause-product
returns-then-left_is_zero-clause-product g c =
    let left = c.is_zero-left_is_zero in
    let right = c.is_zero-right_is_zero in
    let test = product_test g.met.D.Ring.ring_laws g.met.D.Domain.domain_laws c.args.left.now c.args.right.now left.result right.result left.ensures.of right.ensures.of left.ensures.value right.ensures.value in
    (λ t. test.0 (inl t), λ _. c.if-left_is_zero.true)

pub returns-else-left_is_zero-clause-product : goal.returns-else-left_is_zero-clause-product
returns-else-left_is_zero-clause-product g c =
    let left = c.is_zero-left_is_zero in
    let right = c.is_zero-right_is_zero in
    let test = product_test g.met.D.Ring.ring_laws g.met.D.Domain.domain_laws c.args.left.now c.args.right.now left.result right.result left.ensures.of right.ensures.of left.ensures.value right.ensures.value in
    (λ t. test.0 (inr t), λ none. elim (test.1 none) [ inl t ↦ absurd (false≢true (sym c.if-left_is_zero.false ∙ t)) | inr t ↦ t ])
