-- What one command does, before a field is chosen and after.
use Rattle.std.specs.Prelude.{◌≡◌, ℕ, [], ◌∷◌, ◌++◌, Some, None}
use Rattle.hp_algebra.specs.Ring.{RingOf, Numbering}
use Rattle.hp_render.specs.declared.answer.Answer.{Answer}
use Rattle.hp_script.specs.declared.command.Command.{Command}
use Rattle.hp_script.specs.declared.command.Command.TheVariants.{Field, Let, LimitPairs, LimitDegree, Ask}
use Rattle.hp_session.specs.Building.{built}
use Rattle.hp_session.specs.Questions.{IsRightAnswer}
use Rattle.hp_session.specs.Refusals.{refusal_before_field, refusal}
use Rattle.hp_session.specs.State.{State, named}
use Rattle.hp_groebner.specs.declared.limits.Limits.{Limits}
use Rattle.hp_session.specs.declared.prelude.Before.{Before}
use Rattle.hp_session.specs.declared.prelude.Before.TheVariants as before
use Rattle.hp_session.specs.declared.session.Step.{Step}
use Rattle.hp_session.specs.declared.session.Step.TheVariants.{Silent, Answered, Refused, Memory}
use Rattle.hp_session.specs.declared.which.Which.{Which}
use Rattle.hp_session.specs.declared.which.Which.TheVariants.{P5, P7, P13, P31, P101, P251, P32003}

-- the prime of a field
abbrev pub prime_of : Which → ℕ
prime_of P5 = 5
prime_of P7 = 7
prime_of P13 = 13
prime_of P31 = 31
prime_of P101 = 101
prime_of P251 = 251
prime_of P32003 = 32003

-- the limits after a command: an accepted `limit` sets its number
abbrev pub limits_after : Limits → Command → Limits
limits_after limits (LimitPairs n) = record limits { pairs = n }
limits_after limits (LimitDegree n) = record limits { degree = n }
limits_after limits other = limits

abbrev pub IsLimit : Command → Type 0
IsLimit (LimitPairs n) = Unit {0}
IsLimit (LimitDegree n) = Unit {0}
IsLimit other = ⊥

-- Before a field is chosen: an accepted `limit` sets its number, an accepted `field` is chosen, a refused command is refused for what it is; but for the first, the limits stay.
abbrev pub StepsBefore : Limits → Command → Before → Limits → Type 0
StepsBefore old c before.Silent new = (refusal_before_field c ≡ None) × IsLimit c × (new ≡ limits_after old c)
StepsBefore old c (before.Chosen w) new = (refusal_before_field c ≡ None) × (c ≡ Field (prime_of w)) × (new ≡ old)
StepsBefore old c (before.Refused r) new = (refusal_before_field c ≡ Some r) × (new ≡ old)

-- a command that is no question
abbrev pub IsSilent : Command → Type 0
IsSilent (Ask y q) = ⊥
IsSilent other = Unit {0}

-- a question
abbrev pub IsQuestion : Command → Type 0
IsQuestion (Ask y q) = Unit {0}
IsQuestion other = ⊥

module _ {K : Type 0} (ring : RingOf K) (inverse : K → K) (numbers : Numbering K) where
  -- the state after an accepted command: a `let` adds its name at the end, a `limit` sets its number, a question changes nothing
  abbrev pub after : State K → Command → State K
  after state (Let x b) = record state { names = state.names ++ (x, built ring inverse state b) ∷ [] }
  after state (LimitPairs n) = record state { limits = limits_after state.limits (LimitPairs n) }
  after state (LimitDegree n) = record state { limits = limits_after state.limits (LimitDegree n) }
  after state other = state

  -- a right answer of a question in a state
  abbrev pub Answers : State K → Command → Answer K → Type 0
  Answers state (Ask x q) a = IsRightAnswer ring inverse numbers state.limits (named state x) q a
  Answers state other a = ⊥

  -- An accepted command that is no question changes the state, an accepted question is answered, a refused command is refused for what it is; but for the first, the state stays as it was.
  abbrev pub Steps : State K → Command → Step K → State K → Type 0
  Steps old c Silent new = (refusal ring inverse numbers old c ≡ None) × IsSilent c × (new ≡ after old c)
  Steps old c (Answered a) new = (refusal ring inverse numbers old c ≡ None) × Answers old c a × (new ≡ old)
  Steps old c (Refused r) new = (refusal ring inverse numbers old c ≡ Some r) × (new ≡ old)
  Steps old c Memory new = new ≡ old
