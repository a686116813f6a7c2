use Rattle.std.proofs.Common.{◌≡◌, ◌∷◌, ◌++◌, ◌∙◌, [], IfOk, ap, sym, subst}
use Rattle.std.proofs.lemmas.List.{take_all}
use Rattle.hp_poly.specs.Polynomials.{poly_of}
use Rattle.hp_syzygy.specs.VariableTests.{in_first}
use Rattle.hp_syzygy.proofs.KeptTerms.{kept-more, kept_by}
use Rattle.hp_syzygy.proofs.relation.negated_first.Goals as goal

pub loop-k-preserved : goal.loop-k-preserved
loop-k-preserved g c =
    let ring = g.F.Ring.ring in
    let all = c.terms-all.result.now in
    let k = c.loop-k.k in
    let x = c.index-all-k.result in
    let kept = kept_by (λ t. in_first c.args.l t.0) (λ t. (t.0, ring.neg t.1)) in
    c.in_ok-push_negated.ensures
    ∙ (λ i. c.loop-k.invariant i ++ kept (c.index-all-k.is i ∷ []))
    ∙ sym (kept-more (λ t. in_first c.args.l t.0) (λ t. (t.0, ring.neg t.1)) k all x c.loop-k-test.true)

pub returns : goal.returns
returns g c =
    let ring = g.F.Ring.ring in
    let all = c.terms-all.result.now in
    let kept = kept_by (λ t. in_first c.args.l t.0) (λ t. (t.0, ring.neg t.1)) in
    subst (λ p. IfOk c.from_terms.result (λ r. r ≡ p))
    (ap (poly_of ring) (c.loop-k.invariant ∙ ap kept (take_all c.loop-k.k all c.loop-k-test.false ∙ c.terms-all.ensures.value)))
    c.from_terms.ensures
