-- A basis that was stopped at a limit is answered by that limit.
use Rattle.std.proofs.Common.{List, ℕ, inl, inr, length}
use Rattle.hp_algebra.specs.Ring.{RingOf}
use Rattle.hp_arr.specs.Arrangement.{Arrangement}
use Rattle.hp_der.specs.DerivationModules.{IsExtended}
use Rattle.hp_groebner.specs.LimitRules.{IsStop}
use Rattle.hp_groebner.specs.declared.limits.Limits.{Limits}
use Rattle.hp_groebner.specs.declared.limits.Stop.{Stop}
use Rattle.hp_groebner.specs.declared.limits.Stop.TheVariants as stops
use Rattle.hp_module.specs.ElimOrders.{elimination_order}
use Rattle.hp_render.specs.declared.answer.Answer.{Answer}
use Rattle.hp_render.specs.declared.answer.AskWord.{AskWord}
use Rattle.hp_session.specs.DerivationAnswers.{IsLimitAnswer, UnlessStopped}

pub stopped-answer : {K : Type 0} (ring : RingOf K) (arr : Arrangement K) (mult : List ℕ) (limits : Limits)
    (word : AskWord) (Right : Answer K → Type 0) (a : Answer K) (stop : Stop)
    → IsStop (elimination_order (length arr.forms)) (IsExtended ring arr mult) limits stop → IsLimitAnswer stop word a
    → UnlessStopped ring arr mult limits word Right a
stopped-answer ring arr mult limits word Right a stops.Pairs s e = inl (s, e)
stopped-answer ring arr mult limits word Right a stops.Degree s e = inr (inl (s, e))
stopped-answer ring arr mult limits word Right a stops.Memory s e = absurd e
