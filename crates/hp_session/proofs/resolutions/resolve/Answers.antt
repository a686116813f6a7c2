use Rattle.std.proofs.Common.{List, ℕ, inr, ap, ◌∙◌, subst}
use Rattle.hp_complex.specs.Complexes.{map_at}
use Rattle.hp_render.specs.declared.answer.Answer.TheVariants as answer
use Rattle.hp_render.specs.declared.answer.AskWord.TheVariants as asked
use Rattle.hp_session.specs.DerivationAnswers.{UnlessStopped}
use Rattle.hp_session.specs.ResolutionAnswers.{IsResolutionAnswer}
use Rattle.hp_session.proofs.DerivationLimits.{stopped-answer}
use Rattle.hp_session.proofs.resolutions.resolve.Goals as goal

pub returns-in-Ok-clause-right : goal.returns-in-Ok-clause-right
returns-in-Ok-clause-right g c =
    let ring = g.K.Ring.ring in
    let arr = c.args.arr.now in
    let same = c.as_slice.ensures.value ∙ c.in_ok-m.ensures.value in
    let r = c.in_ok-res-in-Ok.res in
    let minimal = c.in_ok-res-in-Ok.ensures.minimal in
    let a = answer.Resolve c.in_ok-resolved-in-Ok.field-0 in
    let P : List ℕ → Type 0 = λ mult. UnlessStopped ring arr mult c.args.limits.now asked.Resolve (IsResolutionAnswer ring arr mult) a in
    subst P same (inr (inr (c.in-Ok.ensures.no_stop, ((map_at r.maps 0).rows, r, (c.in-Ok.basis.members, c.in-Ok.ensures.reduced, c.in_ok-res-in-Ok.ensures.kept), minimal, minimal.frame.resolution, ap answer.Resolve c.in_ok-resolved-in-Ok.ensures))))

pub returns-clause-right : goal.returns-clause-right
returns-clause-right g c =
    let ring = g.K.Ring.ring in
    let arr = c.args.arr.now in
    let same = c.as_slice.ensures.value ∙ c.in_ok-m.ensures.value in
    let a = c.in_ok-stopped-in-Err.field-0 in
    let P : List ℕ → Type 0 = λ mult. UnlessStopped ring arr mult c.args.limits.now asked.Resolve (IsResolutionAnswer ring arr mult) a in
    subst P same (stopped-answer ring arr c.as_slice.result.now c.args.limits.now asked.Resolve
    (IsResolutionAnswer ring arr c.as_slice.result.now) a c.in-Err.stop c.in-Err.ensures.stop c.in_ok-stopped-in-Err.ensures)
