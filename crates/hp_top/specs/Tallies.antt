-- What answers come to, for the functions that take one command after another.
use Rattle.std.specs.Prelude.{◌≡◌, ◌-◌, ◌^◌, ◌≤◌, if◌then◌else◌, ℕ, List, drop, length}
use Rattle.hp_modp.specs.Residues.{residue_numbers}
use Rattle.hp_render.specs.Text.{answer_text}
use Rattle.hp_render.specs.declared.answer.Answer.{Answer}
use Rattle.hp_script.specs.declared.command.Command.{Command}
use Rattle.hp_script.specs.declared.command.Command.TheVariants.{Ask}
use Rattle.hp_script.specs.declared.command.Line.{Line}
use Rattle.hp_session.specs.State.{first_limits, no_names}
use Rattle.hp_top.specs.Course.{Asked, Course, course_after}
use Rattle.hp_top.specs.Summary.{is_limit, tally_of}
use Rattle.hp_top.specs.Text.{AreRight}
use Rattle.hp_top.specs.declared.tally.Tally.{Tally}

-- the course of the lines behind the first, `field 32003`
abbrev pub behind_field : List Line → Course
behind_field lines = course_after 32003 (no_names first_limits) (drop 1 lines)

-- right answers to these questions come to it
abbrev pub IsTally : List Asked → Tally → Type 0
IsTally qs tally = (given : List (Answer ℕ)) × AreRight qs given × (tally ≡ tally_of qs given)

-- an answer to the question comes to it, over the residues modulo p
abbrev pub IsTallyOf : ℕ → Command → Answer ℕ → Tally → Type 0
IsTallyOf p (Ask name q) a tally =
    tally ≡ record { answers = 1; limits = (if is_limit a then 1 else 0); bytes = length (answer_text (residue_numbers p) name a) }
IsTallyOf p other a tally = ⊥

-- it is that of one answer at most, whose text fits in memory
pub record IsOneTally (tally : Tally) : Type 0 where
  pub answers : tally.answers ≤ 1
  pub limits : tally.limits ≤ 1
  pub bytes : tally.bytes ≤ 2 ^ 64 - 1
