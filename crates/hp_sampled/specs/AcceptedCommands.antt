-- Commands that are accepted one after another.
use Rattle.std.specs.Prelude.{◌≡◌, List, [], ◌∷◌, None}
use Rattle.hp_algebra.specs.Ring.{RingOf, Numbering}
use Rattle.hp_script.specs.declared.command.Command.{Command}
use Rattle.hp_session.specs.Refusals.{refusal}
use Rattle.hp_session.specs.State.{State}
use Rattle.hp_session.specs.Steps.{after}

module _ {K : Type 0} (ring : RingOf K) (inverse : K → K) (numbers : Numbering K) where
  -- from a state on, each command is accepted in the state after those before it
  abbrev pub AreAccepted : State K → List Command → Type 0
  AreAccepted state [] = Unit {0}
  AreAccepted state (c ∷ cs) = (refusal ring inverse numbers state c ≡ None) × AreAccepted
      (after ring inverse numbers state c) cs
