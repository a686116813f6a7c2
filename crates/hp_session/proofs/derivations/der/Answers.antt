use Rattle.std.proofs.Common.{List, ℕ, inr, ap, ◌∙◌, subst}
use Rattle.hp_module.specs.Vectors.{IsKept}
use Rattle.hp_render.specs.declared.answer.Answer.TheVariants as answer
use Rattle.hp_render.specs.declared.answer.AskWord.TheVariants as asked
use Rattle.hp_session.specs.DerivationAnswers.{IsGeneratorsAnswer, UnlessStopped}
use Rattle.hp_session.proofs.DerivationLimits.{stopped-answer}
use Rattle.hp_session.proofs.derivations.der.Goals as goal

pub returns-in-Ok-clause-right : goal.returns-in-Ok-clause-right
returns-in-Ok-clause-right g c =
    let ring = g.K.Ring.ring in
    let arr = c.args.arr.now in
    let same = c.as_slice.ensures.value ∙ c.in_ok-m.ensures.value in
    let kept = subst (λ w. IsKept ring w c.in-Ok.basis.members c.in_ok-kept-in-Ok.kept.items) c.in-Ok.ensures.width c.in_ok-kept-in-Ok.ensures.kept in
    let a = answer.Der c.in_ok-entries_of-in-Ok.field-0 in
    let P : List ℕ → Type 0 = λ mult. UnlessStopped ring arr mult c.args.limits.now asked.Der (IsGeneratorsAnswer ring arr mult) a in
    subst P same (inr (inr (c.in-Ok.ensures.no_stop, (c.in_ok-kept-in-Ok.kept.items, (c.in-Ok.basis.members, c.in-Ok.ensures.reduced, kept), ap answer.Der (c.in_ok-entries_of-in-Ok.ensures ∙ c.as_slice-in-Ok.ensures.value)))))

pub returns-clause-right : goal.returns-clause-right
returns-clause-right g c =
    let ring = g.K.Ring.ring in
    let arr = c.args.arr.now in
    let same = c.as_slice.ensures.value ∙ c.in_ok-m.ensures.value in
    let a = c.in_ok-stopped-in-Err.field-0 in
    let P : List ℕ → Type 0 = λ mult. UnlessStopped ring arr mult c.args.limits.now asked.Der (IsGeneratorsAnswer ring arr mult) a in
    subst P same (stopped-answer ring arr c.as_slice.result.now c.args.limits.now asked.Der
    (IsGeneratorsAnswer ring arr c.as_slice.result.now) a c.in-Err.stop c.in-Err.ensures.stop c.in_ok-stopped-in-Err.ensures)
