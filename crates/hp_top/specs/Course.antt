-- What a script asks in order, and the line where it is refused.
use Rattle.std.specs.Prelude.{◌≡◌, ◌⊎◌, ◌≤◌, ℕ, List, [], ◌∷◌, ◌++◌, length, Option, Some, None}
use Rattle.hp_modp.specs.Residues.{residue_ring, inverse_mod, residue_numbers}
use Rattle.hp_arr.specs.Arrangement.{Arrangement}
use Rattle.hp_render.specs.declared.refusal.Refusal.{Refusal}
use Rattle.hp_render.specs.declared.refusal.Refusal.TheVariants.{Syntax}
use Rattle.hp_script.specs.Script.{most_bytes, HasCommands, HasSyntaxFault}
use Rattle.hp_script.specs.declared.command.Command.{Command}
use Rattle.hp_script.specs.declared.command.Command.TheVariants.{Field, Ask}
use Rattle.hp_script.specs.declared.command.Line.{Line}
use Rattle.hp_script.specs.declared.command.Question.{Question}
use Rattle.hp_session.specs.Refusals.{refusal_before_field, refusal}
use Rattle.hp_session.specs.State.{State, first_limits, no_names, named}
use Rattle.hp_session.specs.Steps.{limits_after, after}
use Rattle.hp_groebner.specs.declared.limits.Limits.{Limits}

-- A question that is asked of an arrangement over the field of p elements, which the script calls by a name, under the limits that then hold.
pub record Asked : Type 0 where
  pub p : ℕ
  pub limits : Limits
  pub name : List ℕ
  pub arr : Arrangement ℕ
  pub question : Question

-- The questions up to the first refused line, and that line's number and refusal, if there is one.
pub record Course : Type 0 where
  pub questions : List Asked
  pub refused : Option (ℕ × Refusal)

abbrev pub refused_at : ℕ → Refusal → Course
refused_at n r = record { questions = []; refused = Some (n, r) }

abbrev pub nothing_asked : Course
nothing_asked = record { questions = []; refused = None }

-- the questions, and behind them those of the course
abbrev pub with_front : List Asked → Course → Course
with_front front c = record { questions = front ++ c.questions; refused = c.refused }

-- the course of a line: it is refused, or its question and the course of the lines behind it
abbrev pub line_course : Option Refusal → ℕ → List Asked → Course → Course
line_course (Some r) n front rest = refused_at n r
line_course None n front rest = with_front front rest

module _ (p : ℕ) where
  -- the question of a command in a state
  abbrev pub asks : State ℕ → Command → List Asked
  asks state (Ask x q) = record { p = p; limits = state.limits; name = x; arr = named state x; question = q } ∷ []
  asks state other = []

  -- the refusal of a command in a state, and the state after it, over the residues modulo p
  abbrev pub refusal_over : State ℕ → Command → Option Refusal
  refusal_over state c = refusal (residue_ring p) (inverse_mod p) (residue_numbers p) state c

  abbrev pub after_over : State ℕ → Command → State ℕ
  after_over state c = after (residue_ring p) (inverse_mod p) (residue_numbers p) state c

  -- the course of commands from a state on, over the residues modulo p
  abbrev pub course_after : State ℕ → List Line → Course
  course_after state [] = nothing_asked
  course_after state (l ∷ ls) = line_course (refusal_over state l.command) l.number (asks state l.command) (course_after (after_over state l.command) ls)

-- what comes behind an accepted command before a field is chosen: behind `field` the lines are read over it, behind any other command the rest is as it was
abbrev pub course_behind : Limits → Command → List Line → Course → Course
course_behind limits (Field p) ls rest = course_after p (no_names limits) ls
course_behind limits other ls rest = rest

-- the course of commands before a field is chosen, under these limits
abbrev pub course_before : Limits → List Line → Course
course_before limits [] = nothing_asked
course_before limits (l ∷ ls) =
    line_course (refusal_before_field l.command) l.number [] (course_behind limits l.command ls (course_before (limits_after limits l.command) ls))

abbrev pub course : List Line → Course
course cs = course_before first_limits cs

-- The course of a script. A line outside the grammar refuses the script before any answer.
abbrev pub HasCourse : List ℕ → Course → Type 0
HasCourse script c =
    ((line : ℕ) × (column : ℕ) × HasSyntaxFault script line column × (c ≡ refused_at line (Syntax column)))
    ⊎ ((cs : List Line) × HasCommands script cs × (c ≡ course cs))

-- a script without a line outside the grammar
abbrev pub IsWithinGrammar : List ℕ → Type 0
IsWithinGrammar script = (cs : List Line) × HasCommands script cs

-- a script that is read whole
abbrev pub IsShort : List ℕ → Type 0
IsShort script = length script ≤ most_bytes

-- accepted: every line is within the grammar, and no command is refused
abbrev pub IsAccepted : List ℕ → Type 0
IsAccepted script = IsShort script × ((c : Course) × HasCourse script c × (c.refused ≡ None))

-- refused: a line is outside the grammar, or some command is refused
abbrev pub IsRefused : List ℕ → Type 0
IsRefused script = IsShort script × ((c : Course) × (r : ℕ × Refusal) × HasCourse script c × (c.refused ≡ Some r))
