-- Over a field, line by line: what a run gave so far, and the course of the lines ahead.
use Rattle.std.proofs.Common.{◌≡◌, ℕ, ◌+◌, ◌<◌, ◌≤◌, List, [], ◌∷◌, ◌++◌, drop, length, Option, Some, None, Err, Ok, refl, sym, ap, subst, ◌∙◌, append_assoc, get_or, inl, inr}
use Rattle.std.specs.declared.result.Result.{Result}
use Rattle.std.proofs.lemmas.List.{drop_more}
use Rattle.std.proofs.Math.ListN.{drop_of_length-le}
use Rattle.hp_io.specs.Bytes.{Gave}
use Rattle.hp_io.proofs.Givings.{gave_none, gave_more, gave_no_more}
use Rattle.hp_render.specs.declared.answer.Answer.{Answer}
use Rattle.hp_render.specs.declared.refusal.Refusal.{Refusal}
use Rattle.hp_script.specs.declared.command.Command.{Command}
use Rattle.hp_script.specs.declared.command.Command.TheVariants.{Field, Let, LimitPairs, LimitDegree, Ask}
use Rattle.hp_script.specs.declared.command.Line.{Line}
use Rattle.hp_script.specs.declared.command.Question.{Question}
use Rattle.hp_session.specs.State.{State, named, no_names}
use Rattle.hp_session.specs.Steps.{IsSilent}
use Rattle.hp_groebner.specs.declared.limits.Limits.{Limits}
use Rattle.hp_top.specs.Course.{Asked, Course, refused_at, nothing_asked, with_front, asks, line_course, refusal_over, after_over, course_after}
use Rattle.hp_top.specs.Text.{IsRightFor, text_of, AreAnswers}
use Rattle.hp_top.specs.Ends.{GavePartOf, GaveFront, EndsBy, WritesText, WritesAnswer, AnswersOver, GoesOn, EndsAt}
use Rattle.hp_top.specs.declared.status.Status.{Status}
use Rattle.hp_top.specs.declared.status.Status.TheVariants.{Done, ScriptRefused, ReadFault, WriteFault, TooLong, WordsRefused, OutOfMemory}
use Rattle.hp_top.proofs.Courses.{nothing_text, nothing_part, one_answer, question_part, answers-append, ends_behind}

module _ (p : ℕ) where
  -- a command that is no question asks nothing
  pub asks-silent : (state : State ℕ) (c : Command) → IsSilent c → asks p state c ≡ []
  asks-silent state (Field n) silent = refl
  asks-silent state (Let y b) silent = refl
  asks-silent state (LimitPairs n) silent = refl
  asks-silent state (LimitDegree n) silent = refl
  asks-silent state (Ask y q) silent = absurd silent

  pub course_refused : (state : State ℕ) (l : Line) (ls : List Line) (r : Refusal)
      → refusal_over p state l.command ≡ Some r → course_after p state (l ∷ ls) ≡ refused_at l.number r
  course_refused state l ls r e = ap (λ o. line_course o l.number (asks p state l.command) (course_after p (after_over p state l.command) ls)) e

  pub course_silent : (state next : State ℕ) (l : Line) (ls : List Line) → refusal_over p state l.command ≡ None
      → IsSilent l.command → next ≡ after_over p state l.command
      → course_after p state (l ∷ ls) ≡ course_after p next ls
  course_silent state next l ls e silent is =
      ap (λ o. line_course o l.number (asks p state l.command) (course_after p (after_over p state l.command) ls)) e
      ∙ ap (λ front. with_front front (course_after p (after_over p state l.command) ls)) (asks-silent state l.command silent)
      ∙ ap (λ s. course_after p s ls) (sym is)

  -- the question that is asked of a name in a state
  abbrev pub asked_of : State ℕ → List ℕ → Question → Asked
  asked_of state x q = record { p = p; limits = state.limits; name = x; arr = named state x; question = q }

  -- a question that is answered
  pub record Asks (state : State ℕ) (c : Command) (a : Answer ℕ) : Type 0 where
    pub name : List ℕ
    pub question : Question
    pub command : c ≡ Ask name question
    pub right : IsRightFor (asked_of state name question) a

  -- its question
  abbrev pub asked : {state : State ℕ} {c : Command} {a : Answer ℕ} → Asks state c a → Asked
  asked {state} it = asked_of state it.name it.question

  pub asks_question : (state : State ℕ) (c : Command) (a : Answer ℕ) → AnswersOver p state c a → Asks state c a
  asks_question state (Field n) a none = absurd none
  asks_question state (Let y b) a none = absurd none
  asks_question state (LimitPairs n) a none = absurd none
  asks_question state (LimitDegree n) a none = absurd none
  asks_question state (Ask y q) a right = record { name = y; question = q; command = refl; right = right }

  pub course_answered : (state : State ℕ) (l : Line) (ls : List Line) (a : Answer ℕ)
      → refusal_over p state l.command ≡ None → (it : Asks state l.command a)
      → course_after p state (l ∷ ls) ≡ with_front (asked it ∷ []) (course_after p state ls)
  course_answered state l ls a e it =
      ap (λ o. line_course o l.number (asks p state l.command) (course_after p (after_over p state l.command) ls)) e
      ∙ ap (λ c. with_front (asks p state c) (course_after p (after_over p state c) ls)) it.command

  -- what was written for the answer is its text, or the front of it
  writes_text : (state : State ℕ) (c : Command) (a : Answer ℕ) (it : Asks state c a) (result : Result (Unit {0}) Status)
      (before now : Option (List ℕ)) → WritesAnswer p c a result before now
      → WritesText (text_of (asked it) a) result before now
  writes_text state c a it result before now writes = subst (λ d. WritesAnswer p d a result before now) it.command writes

  -- the course from line i on is that of the line and those behind it
  pub line_ahead : (whole : Course) (questions : List Asked) (lines : List Line) (i : ℕ) (state : State ℕ) (line : Line)
      → i < length lines → line ≡ get_or lines i line → whole ≡ with_front questions (course_after p state (drop i lines))
      → whole ≡ with_front questions (course_after p state (line ∷ drop (i + 1) lines))
  line_ahead whole questions lines i state line within read ahead =
      ahead ∙ ap (λ ls. with_front questions (course_after p state ls)) (drop_more lines i line within ∙ ap (λ l. l ∷ drop (i + 1) lines) (sym read))

  -- and behind the last line there is nothing
  pub nothing_ahead : (whole : Course) (questions : List Asked) (lines : List Line) (i : ℕ) (state : State ℕ)
      → length lines ≤ i → whole ≡ with_front questions (course_after p state (drop i lines))
      → whole ≡ with_front questions nothing_asked
  nothing_ahead whole questions lines i state past ahead =
      ahead ∙ ap (λ ls. with_front questions (course_after p state ls)) (drop_of_length-le lines past)

  -- how far the run of a course has come: it gave right answers to some questions, and the course goes on from a state at line i
  pub record Going (whole : Course) (lines : List Line) (i : ℕ) (state : State ℕ) (before now : Option (List ℕ)) : Type 0 where
    pub questions : List Asked
    pub texts : List ℕ
    pub answers : AreAnswers questions texts
    pub given : Gave before now texts
    pub ahead : whole ≡ with_front questions (course_after p state (drop i lines))

  module _ (whole : Course) (lines : List Line) (i : ℕ) (state : State ℕ) (before middle : Option (List ℕ)) (going : Going whole lines i state before middle) where
    -- the run ends by what is ahead
    ends_ahead : (rest : Course) (status : Status) (now : Option (List ℕ)) → whole ≡ with_front going.questions rest
        → EndsBy status rest middle now → EndsBy status whole before now
    ends_ahead rest status now ahead ends =
        subst (λ c. EndsBy status c before now) (sym ahead) (ends_behind going.questions going.texts going.answers rest before middle now going.given status ends)

    -- where memory is out between two lines, the answers so far are a part
    ends_memory : (now : Option (List ℕ)) → Gave middle now [] → EndsBy OutOfMemory whole before now
    ends_memory now given = let rest = course_after p state (drop i lines) in ends_ahead rest OutOfMemory now going.ahead ([], nothing_part rest, given)

    -- behind the last line all is answered
    pub ends_done : length lines ≤ i → EndsBy Done whole before middle
    ends_done past =
        ends_ahead nothing_asked Done middle (nothing_ahead whole going.questions lines i state past going.ahead) (refl, ([], nothing_text, gave_none middle))

    module _ (line : Line) (within : i < length lines) (read : line ≡ get_or lines i line) where
      -- the lines behind it
      abbrev rest : List Line
      rest = drop (i + 1) lines

      front_line : whole ≡ with_front going.questions (course_after p state (line ∷ rest))
      front_line = line_ahead whole going.questions lines i state line within read going.ahead

      module _ (a : Answer ℕ) (accepted : refusal_over p state line.command ≡ None) (it : Asks state line.command a) where
        more : whole ≡ with_front going.questions (with_front (asked it ∷ []) (course_after p state rest))
        more = front_line ∙ ap (with_front going.questions) (course_answered state line rest a accepted it)

        -- an answered question, whose text was given
        going_answered : (now : Option (List ℕ)) → Gave middle now (text_of (asked it) a)
            → Going whole lines (i + 1) state before now
        going_answered now given = record {
          questions = going.questions ++ asked it ∷ [];
          texts = going.texts ++ text_of (asked it) a;
          answers = answers-append going.questions (asked it ∷ []) going.texts (text_of (asked it) a) going.answers (one_answer (asked it) a it.right);
          given = gave_more before middle now going.texts (text_of (asked it) a) going.given given;
          ahead = more ∙ ap (λ front. record { questions = front; refused = (course_after p state rest).refused }) (sym (append_assoc going.questions (asked it ∷ []) (course_after p state rest).questions));
        }

        -- the run ended within its text
        ends_answering : (status : Status) (now : Option (List ℕ)) → GaveFront (text_of (asked it) a) middle now
            → ((c : Course) → GavePartOf c middle now → EndsBy status c middle now) → EndsBy status whole before now
        ends_answering status now front cut =
            let behind = with_front (asked it ∷ []) (course_after p state rest) in
            ends_ahead behind status now more (cut behind (front.0, question_part (asked it) a (course_after p state rest) front.0 it.right front.1, front.2))

        by_status : (s : Status) (now : Option (List ℕ)) → WritesText (text_of (asked it) a) (Err s) middle now
            → EndsBy s whole before now
        by_status WriteFault now front = ends_answering WriteFault now front (λ c part. part)
        by_status OutOfMemory now front = ends_answering OutOfMemory now front (λ c part. part)
        by_status Done now none = absurd none
        by_status ScriptRefused now none = absurd none
        by_status ReadFault now none = absurd none
        by_status TooLong now none = absurd none
        by_status WordsRefused now none = absurd none

      -- a line that goes on
      pub going_on : (next : State ℕ) (now : Option (List ℕ)) → GoesOn p state line next middle now
          → Going whole lines (i + 1) next before now
      going_on next now (inl silent) = record {
        questions = going.questions;
        texts = going.texts;
        answers = going.answers;
        given = gave_no_more before middle now going.texts going.given silent.3;
        ahead = front_line ∙ ap (with_front going.questions) (course_silent state next line rest silent.0 silent.1 silent.2);
      }
      going_on next now (inr answered) =
          let a = answered.0 in
          let it = asks_question state line.command a answered.2 in
          let P : State ℕ → Type 0 = λ s. Going whole lines (i + 1) s before now in
          subst P (sym answered.3) (going_answered a answered.1 it now (writes_text state line.command a it (Ok tt) middle now answered.4))

      -- a line that ends the run
      pub ending : (status : Status) (now : Option (List ℕ)) → EndsAt p state line status middle now
          → EndsBy status whole before now
      ending status now (inl refused) =
          ends_ahead (refused_at line.number refused.0) status now (front_line ∙ ap (with_front going.questions) (course_refused state line rest refused.0 refused.1)) refused.2
      ending status now (inr (inl out)) = subst (λ s. EndsBy s whole before now) (sym out.0) (ends_memory now out.1)
      ending status now (inr (inr answered)) =
          let a = answered.0 in
          let it = asks_question state line.command a answered.2 in
          by_status a answered.1 it status now (writes_text state line.command a it (Err status) middle now answered.3)

  -- before the first line nothing is answered
  pub going_first : (limits : Limits) (lines : List Line) (now : Option (List ℕ))
      → Going (course_after p (no_names limits) lines) lines 0 (no_names limits) now now
  going_first limits lines now = record { questions = []; texts = []; answers = ([], tt, refl); given = gave_none now; ahead = refl }
