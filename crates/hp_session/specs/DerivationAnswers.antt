-- Answers about derivations, in whose place the limits of Gröbner bases may stand.
use Rattle.std.specs.Prelude.{◌≡◌, ◌⊎◌, ℕ, List, length}
use Rattle.hp_algebra.specs.Ring.{RingOf}
use Rattle.hp_arr.specs.Arrangement.{Arrangement}
use Rattle.hp_der.specs.DerivationModules.{IsLogarithmic, IsExtended}
use Rattle.hp_groebner.specs.LimitRules.{NeverStops, StopsForPairs, StopsForDegree}
use Rattle.hp_groebner.specs.declared.limits.Limits.{Limits}
use Rattle.hp_groebner.specs.declared.limits.Stop.{Stop}
use Rattle.hp_groebner.specs.declared.limits.Stop.TheVariants as stops
use Rattle.hp_module.specs.ElimOrders.{elimination_order}
use Rattle.hp_module.specs.Leads.{IsReducedBasis}
use Rattle.hp_module.specs.Vectors.{Vector, IsKept}
use Rattle.hp_render.specs.declared.answer.Answer.{Answer}
use Rattle.hp_render.specs.declared.answer.Answer.TheVariants.{Gb, Der, Limit}
use Rattle.hp_render.specs.declared.answer.AskWord.{AskWord}
use Rattle.hp_render.specs.declared.answer.LimitKind.TheVariants as kind

-- the answer in place of which a basis was stopped at a limit
abbrev pub IsLimitAnswer : {K : Type 0} → Stop → AskWord → Answer K → Type 0
IsLimitAnswer stops.Pairs word a = a ≡ Limit word kind.Pairs
IsLimitAnswer stops.Degree word a = a ≡ Limit word kind.Degree
IsLimitAnswer stops.Memory word a = ⊥

module _ {K : Type 0} (ring : RingOf K) (arr : Arrangement K) (mult : List ℕ) where
  -- a right answer, or the limit at which the rule stops on the larger module, in its order
  abbrev pub UnlessStopped : Limits → AskWord → (Answer K → Type 0) → Answer K → Type 0
  UnlessStopped limits word Right a =
      let order = elimination_order (length arr.forms) in
      let larger = IsExtended ring arr mult in
      (StopsForPairs order larger limits × (a ≡ Limit word kind.Pairs))
      ⊎ ((StopsForDegree order larger limits × (a ≡ Limit word kind.Degree))
      ⊎ (NeverStops order larger limits × Right a))

  -- the reduced Gröbner basis of the logarithmic derivations
  abbrev pub IsDerivationBasis : List (Vector K) → Type 0
  IsDerivationBasis vs = IsReducedBasis ring (elimination_order 0) (IsLogarithmic ring arr mult) vs

  abbrev pub IsBasisAnswer : Answer K → Type 0
  IsBasisAnswer a = (vs : List (Vector K)) × IsDerivationBasis vs × (a ≡ Gb vs)

  -- the minimal generators that the reduced basis has
  abbrev pub AreKeptGenerators : List (Vector K) → Type 0
  AreKeptGenerators kept = (vs : List (Vector K)) × IsDerivationBasis vs × IsKept ring arr.dim vs kept

  abbrev pub IsGeneratorsAnswer : Answer K → Type 0
  IsGeneratorsAnswer a = (kept : List (Vector K)) × AreKeptGenerators kept × (a ≡ Der kept)
