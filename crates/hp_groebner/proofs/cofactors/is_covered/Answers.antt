use Rattle.std.proofs.Common.{subst, arith, below_more}
use Rattle.std.proofs.lemmas.List.{get_or_default}
use Rattle.hp_lists.proofs.Members.{not_both}
use Rattle.hp_mono.specs.Monomials.{Divides, one}
use Rattle.hp_groebner.proofs.MinimalCofactors.{none-covered, not-same}
use Rattle.hp_groebner.proofs.cofactors.is_covered.Goals as goal

pub loop-k-preserved : goal.loop-k-preserved
loop-k-preserved c =
    let kept = c.args.kept.now in
    let e = get_or_default kept c.loop-k.k (one, 0) c.index-kept-k.result c.loop-k-test.true in
    let v = c.divides.ensures.value in
    below_more _ _ c.loop-k.invariant
    (λ d. not_both c.divides.result (v.1 (subst (λ x. Divides x.0 c.args.q.now) e d)) c.if-divides.false)

pub returns : goal.returns
returns c =
    let l = c.loop-k-test.false in
    let n = none-covered c.args.kept.now c.args.q.now (λ k h. c.loop-k.invariant k (omega (arith, h, l))) in
    (λ e. absurd (not-same e), λ v. absurd (n v))
