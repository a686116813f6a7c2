use Rattle.std.proofs.Common.{List, ℕ, inr, sym, ◌∙◌, subst}
use Rattle.hp_render.specs.declared.answer.AskWord.TheVariants as asked
use Rattle.hp_session.specs.DerivationAnswers.{UnlessStopped}
use Rattle.hp_session.specs.ResolutionAnswers.{IsFreenessAnswer}
use Rattle.hp_session.proofs.DerivationLimits.{stopped-answer}
use Rattle.hp_session.proofs.resolutions.free.Goals as goal

pub returns-in-Ok-clause-right : goal.returns-in-Ok-clause-right
returns-in-Ok-clause-right g c =
    let ring = g.K.Ring.ring in
    let numbers = g.K.FiniteField.numbers in
    let arr = c.args.arr.now in
    let same = c.as_slice.ensures.value ∙ c.in_ok-m.ensures.value in
    let again = c.as_slice-in-Ok.ensures.value ∙ sym c.as_slice.ensures.value in
    let a = c.in_ok-freeness-in-Ok.field-0 in
    let P : List ℕ → Type 0 = λ mult. UnlessStopped ring arr mult c.args.limits.now asked.Free (IsFreenessAnswer ring numbers arr mult) a in
    let Q : List ℕ → Type 0 = λ mult. IsFreenessAnswer ring numbers arr mult a in
    subst P same (inr (inr (c.in-Ok.ensures.no_stop, subst Q again c.in_ok-freeness-in-Ok.ensures)))

pub returns-clause-right : goal.returns-clause-right
returns-clause-right g c =
    let ring = g.K.Ring.ring in
    let numbers = g.K.FiniteField.numbers in
    let arr = c.args.arr.now in
    let same = c.as_slice.ensures.value ∙ c.in_ok-m.ensures.value in
    let a = c.in_ok-stopped-in-Err.field-0 in
    let P : List ℕ → Type 0 = λ mult. UnlessStopped ring arr mult c.args.limits.now asked.Free (IsFreenessAnswer ring numbers arr mult) a in
    subst P same (stopped-answer ring arr c.as_slice.result.now c.args.limits.now asked.Free
    (IsFreenessAnswer ring numbers arr c.as_slice.result.now) a c.in-Err.stop c.in-Err.ensures.stop c.in_ok-stopped-in-Err.ensures)
