use Rattle.std.proofs.Common.{◌≡◌, ◌∙◌, ◌<◌, [], length, get_or, take, ap, sym, subst, arith}
use Rattle.std.proofs.lemmas.List.{get_or_default}
use Rattle.std.proofs.lemmas.Bool.{false≢true}
use Rattle.hp_module.specs.Vectors.{IsGenerated}
use Rattle.hp_der.proofs.KeptSteps.{kept-none, kept-one}
use Rattle.hp_der.proofs.minimal.keep.Goals as goal
use Rattle.hp_der.proofs.minimal.keep.Goals.{then-not-is_among+in_ok-copy+in_ok-push, else-not-is_among}

pub loop-i-preserved : goal.loop-i-preserved
loop-i-preserved g c =
    let ring = g.F.Ring.ring in
    let width = c.args.basis.now.width in
    let xs = c.members-members.result.now in
    let i = c.loop-i.i in
    let same = c.members-members.ensures.value in
    let l : i < length xs = omega (arith, c.loop-i-test.true, c.loop-i.auto.i-end, c.requires.within, ap length same) in
    let p = c.requires.pivots i (omega (arith, c.loop-i.auto.i)) (omega (arith, c.loop-i-test.true, c.loop-i.auto.i-end)) in
    elim c.if-not-is_among.branch [
      | then-not-is_among+in_ok-copy+in_ok-push w ↦
          let x = w.index-members-i.result in
          let at : x ≡ get_or xs i [] = w.index-members-i.is ∙ get_or_default xs i x [] l in
          kept-one ring width xs i l c.loop-i.kept.items c.loop-i.invariant
          (λ h. false≢true (sym w.if-not-is_among.true ∙ c.is_among.ensures.1 (p.1 (subst (λ ms. IsGenerated ring width (take i ms) (get_or ms i [])) same h))))
          (w.in_ok-copy.ensures ∙ at) (ap (λ v. v.items) w.kept-is ∙ w.in_ok-push.ensures.items)
      | else-not-is_among w ↦
          kept-none ring width xs i l c.loop-i.kept.items c.loop-i.invariant
          (subst (λ ms. IsGenerated ring width (take i ms) (get_or ms i [])) (sym same) (p.0 (c.is_among.ensures.0 w.if-not-is_among.false)))
          (ap (λ v. v.items) w.kept-is)
    ]
