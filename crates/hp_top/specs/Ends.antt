-- How a part of a run ends: what it gives to the sink by its status.
use Rattle.std.specs.Prelude.{◌≡◌, ◌⊎◌, ℕ, List, [], Option, Some, None, Ok, Err}
use Rattle.std.specs.declared.result.Result.{Result}
use Rattle.hp_modp.specs.Residues.{residue_ring, inverse_mod, residue_numbers}
use Rattle.hp_render.specs.Text.{answer_text}
use Rattle.hp_render.specs.declared.answer.Answer.{Answer}
use Rattle.hp_script.specs.declared.command.Command.{Command}
use Rattle.hp_script.specs.declared.command.Command.TheVariants.{Ask}
use Rattle.hp_io.specs.Bytes.{Gave}
use Rattle.hp_top.specs.Course.{Course, HasCourse, refused_at, refusal_over, after_over}
use Rattle.hp_session.specs.State.{State}
use Rattle.hp_session.specs.Steps.{IsSilent, Answers}
use Rattle.hp_script.specs.declared.command.Line.{Line}
use Rattle.hp_top.specs.Summary.{IsSummary}
use Rattle.hp_top.specs.Text.{IsTextOf, IsPartOf, IsPrefix}
use Rattle.hp_render.specs.declared.refusal.Refusal.{Refusal}
use Rattle.hp_top.specs.declared.status.Status.{Status}
use Rattle.hp_top.specs.declared.status.Status.TheVariants.{Done, ScriptRefused, ReadFault, WriteFault, TooLong, WordsRefused, OutOfMemory}

-- the sink was given the text of the course, and a part of it
abbrev pub GaveText : Course → Option (List ℕ) → Option (List ℕ) → Type 0
GaveText c before now = (text : List ℕ) × IsTextOf c text × Gave before now text

abbrev pub GavePartOf : Course → Option (List ℕ) → Option (List ℕ) → Type 0
GavePartOf c before now = (bytes : List ℕ) × IsPartOf c bytes × Gave before now bytes

abbrev pub EndsBy : Status → Course → Option (List ℕ) → Option (List ℕ) → Type 0
EndsBy Done c before now = (c.refused ≡ None) × GaveText c before now
EndsBy ScriptRefused c before now = ((r : ℕ × Refusal) × (c.refused ≡ Some r)) × GaveText c before now
EndsBy WriteFault c before now = GavePartOf c before now
EndsBy OutOfMemory c before now = GavePartOf c before now
EndsBy ReadFault c before now = ⊥
EndsBy TooLong c before now = ⊥
EndsBy WordsRefused c before now = ⊥

-- a run of a script ends by the course that it has, or memory was out before that was known
abbrev pub EndsScript : List ℕ → Status → Option (List ℕ) → Option (List ℕ) → Type 0
EndsScript script status before now = ((c : Course) × HasCourse script c × EndsBy status c before now) ⊎ ((status ≡ OutOfMemory) × Gave before now [])

-- the front of the text was given
abbrev pub GaveFront : List ℕ → Option (List ℕ) → Option (List ℕ) → Type 0
GaveFront text before now = (front : List ℕ) × IsPrefix front text × Gave before now front

-- the sink was given the text, or the front of it where that ended the run
abbrev pub WritesText : List ℕ → Result (Unit {0}) Status → Option (List ℕ) → Option (List ℕ) → Type 0
WritesText text (Ok done) before now = Gave before now text
WritesText text (Err WriteFault) before now = GaveFront text before now
WritesText text (Err OutOfMemory) before now = GaveFront text before now
WritesText text (Err other) before now = ⊥

-- A run of a sample ends: its summary was written, or the front of it, or memory was out before that was known.
abbrev pub EndsSample : ℕ → Status → Option (List ℕ) → Option (List ℕ) → Type 0
EndsSample k Done before now = (text : List ℕ) × IsSummary k text × Gave before now text
EndsSample k WriteFault before now = (text : List ℕ) × IsSummary k text × GaveFront text before now
EndsSample k OutOfMemory before now = Gave before now [] ⊎ ((text : List ℕ) × IsSummary k text × GaveFront text before now)
EndsSample k ScriptRefused before now = ⊥
EndsSample k ReadFault before now = ⊥
EndsSample k TooLong before now = ⊥
EndsSample k WordsRefused before now = ⊥

module _ (p : ℕ) where
  -- the same of the text of an answer to a question, over the residues modulo p
  abbrev pub WritesAnswer : Command → Answer ℕ → Result (Unit {0}) Status → Option (List ℕ) → Option (List ℕ) → Type 0
  WritesAnswer (Ask name q) a result before now = WritesText (answer_text (residue_numbers p) name a) result before now
  WritesAnswer other a result before now = ⊥

  -- a right answer of a question in a state
  abbrev pub AnswersOver : State ℕ → Command → Answer ℕ → Type 0
  AnswersOver state c a = Answers (residue_ring p) (inverse_mod p) (residue_numbers p) state c a

  -- A line goes on: a silent command changes the state and gives nothing, or an answered question keeps the state and its text is given.
  abbrev pub GoesOn : State ℕ → Line → State ℕ → Option (List ℕ) → Option (List ℕ) → Type 0
  GoesOn state l next before now =
      ((refusal_over p state l.command ≡ None) × IsSilent l.command × (next ≡ after_over p state l.command) × Gave before now [])
      ⊎ ((a : Answer ℕ) × (refusal_over p state l.command ≡ None) × AnswersOver state l.command a × (next ≡ state) × WritesAnswer l.command a (Ok tt) before now)

  -- A line ends the run: it is refused, memory is out, or the text of its answer was cut off.
  abbrev pub EndsAt : State ℕ → Line → Status → Option (List ℕ) → Option (List ℕ) → Type 0
  EndsAt state l status before now =
      ((r : Refusal) × (refusal_over p state l.command ≡ Some r) × EndsBy status (refused_at l.number r) before now)
      ⊎ (((status ≡ OutOfMemory) × Gave before now [])
      ⊎ ((a : Answer ℕ) × (refusal_over p state l.command ≡ None) × AnswersOver state l.command a × WritesAnswer l.command a (Err status) before now))
