-- The course of the sample script: it is accepted and asks 90 questions.
use Rattle.std.proofs.Common.{◌≡◌, ℕ, suc, ◌+◌, ◌-◌, ◌≤◌, List, [], ◌∷◌, take, drop, length, None, refl, sym, ap, subst, ◌∙◌, length-append, inr, arith}
use Rattle.std.proofs.lemmas.List.{take_rest}
use Rattle.hp_groebner.specs.declared.limits.Limits.{Limits}
use Rattle.hp_lists.specs.Lists.{one_to}
use Rattle.hp_modp.specs.Residues.{residue_ring, inverse_mod, residue_numbers}
use Rattle.hp_sample.specs.Sample.{sample_text}
use Rattle.hp_sampled.specs.AcceptedCommands.{AreAccepted}
use Rattle.hp_sampled.specs.SampleCommands.{graph_commands, numbered, questions_of, sample_commands}
use Rattle.hp_sampled.proofs.SampleAccepted.{sample-accepted, field-accepted}
use Rattle.hp_sampled.proofs.SampleQuestions.{sample-count}
use Rattle.hp_sampled.proofs.SampleReading.{sample-commands, sample-feeds}
use Rattle.hp_render.specs.declared.answer.Answer.{Answer}
use Rattle.hp_script.specs.declared.command.Command.{Command}
use Rattle.hp_script.specs.declared.command.Command.TheVariants.{Field, Let, LimitPairs, LimitDegree, Ask}
use Rattle.hp_script.specs.declared.command.Line.{Line}
use Rattle.hp_script.specs.Script.{HasCommands}
use Rattle.hp_script.proofs.OneReading.{one_reading}
use Rattle.hp_session.specs.State.{State, first_limits, no_names}
use Rattle.hp_top.specs.Course.{Asked, Course, HasCourse, asks, line_course, after_over, course_after, IsWithinGrammar}
use Rattle.hp_top.specs.Summary.{IsSummary, feeds, summary_text}
use Rattle.hp_top.specs.Tallies.{IsTally, behind_field}
use Rattle.hp_top.specs.Text.{AreRight}
use Rattle.hp_top.specs.declared.tally.Tally.{Tally}
use Rattle.hp_top.proofs.Choosing.{before_field}

module _ (p : ℕ) where
  -- the course of the line of a command, where it is accepted
  accepted_line : (state : State ℕ) (n : ℕ) (c : Command) (cs : List Command)
      → AreAccepted (residue_ring p) (inverse_mod p) (residue_numbers p) state (c ∷ cs)
      → course_after p state (numbered n (c ∷ cs)) ≡ line_course None n (asks p state c) (course_after p (after_over p state c) (numbered (n + 1) cs))
  accepted_line state n c cs are =
      ap (λ o. line_course o n (asks p state c) (course_after p (after_over p state c) (numbered (n + 1) cs))) are.0

  -- the course of commands that are accepted
  pub course_accepted : (state : State ℕ) (n : ℕ) (cs : List Command)
      → AreAccepted (residue_ring p) (inverse_mod p) (residue_numbers p) state cs
      → (course_after p state (numbered n cs)).refused ≡ None
  course_accepted state n [] are = refl
  course_accepted state n (c ∷ cs) are =
      ap (λ (c : Course). c.refused) (accepted_line state n c cs are)
      ∙ course_accepted (after_over p state c) (n + 1) cs are.1

  -- a question is asked, and nothing else
  asks-count : (state : State ℕ) (c : Command) (cs : List Command) (m : ℕ) → m ≡ length (questions_of cs)
      → length (asks p state c) + m ≡ length (questions_of (c ∷ cs))
  asks-count state (Field n) cs m e = omega (arith, e)
  asks-count state (Let y b) cs m e = omega (arith, e)
  asks-count state (LimitPairs n) cs m e = omega (arith, e)
  asks-count state (LimitDegree n) cs m e = omega (arith, e)
  asks-count state (Ask y q) cs m e = omega (arith, e)

  pub course_count : (state : State ℕ) (n : ℕ) (cs : List Command)
      → AreAccepted (residue_ring p) (inverse_mod p) (residue_numbers p) state cs
      → length (course_after p state (numbered n cs)).questions ≡ length (questions_of cs)
  course_count state n [] are = refl
  course_count state n (c ∷ cs) are =
      let rest = (course_after p (after_over p state c) (numbered (n + 1) cs)).questions in
      ap (λ (c : Course). length c.questions) (accepted_line state n c cs are)
      ∙ length-append (asks p state c) rest
      ∙ asks-count state c cs (length rest) (course_count (after_over p state c) (n + 1) cs are.1)

-- under the first limits
pub same_course : (limits : Limits) (lines : List Line) → limits ≡ first_limits
    → course_after 32003 (no_names limits) (take (length lines - 1) (drop 1 lines)) ≡ behind_field lines
same_course limits lines first =
    ap (λ l. course_after 32003 (no_names l) (take (length lines - 1) (drop 1 lines))) first
    ∙ ap (course_after 32003 (no_names first_limits)) (take_rest lines 1)

-- What is known of the lines of the sample script.
pub record AreSampleLines (k : ℕ) (lines : List Line) : Type 0 where
  pub some : 1 ≤ length lines
  pub has : HasCourse (sample_text k) (behind_field lines)
  pub accepted : (behind_field lines).refused ≡ None
  pub count : length (behind_field lines).questions ≡ 90

-- the lines that were numbered
numbered_lines : (k : ℕ) → AreSampleLines k (numbered 1 (sample_commands k))
numbered_lines k =
    let cs = graph_commands (one_to 30) k in
    let are = sample-accepted first_limits k in
    let field : Line = record { number = 1; command = Field 32003 } in
    record {
      some = above (length (numbered 2 cs));
      has = inr (numbered 1 (sample_commands k), sample-commands k, sym (before_field first_limits field (numbered 2 cs) 32003 field-accepted refl));
      accepted = course_accepted 32003 (no_names first_limits) 2 cs are;
      count = course_count 32003 (no_names first_limits) 2 cs are ∙ sample-count k;
    }
  where
    above : (n : ℕ) → 1 ≤ suc n
    above n = omega arith

-- Whatever commands the script is read as, they are these.
pub sample_lines : (k : ℕ) (script : List ℕ) (read lines : List Line) → script ≡ sample_text k → lines ≡ read
    → HasCommands script read → AreSampleLines k lines
sample_lines k script read lines is same has =
    let numbers = numbered 1 (sample_commands k) in
    subst (AreSampleLines k) ((one_reading (sample_text k)).commands numbers read (sample-commands k) (subst (λ s. HasCommands s read) is has) ∙ sym same) (numbered_lines k)

-- It has no line outside the grammar.
pub sample_lawful : (k : ℕ) → IsWithinGrammar (sample_text k)
sample_lawful k = (numbered 1 (sample_commands k), sample-commands k)

right-count : (qs : List Asked) (given : List (Answer ℕ)) → AreRight qs given → length given ≡ length qs
right-count [] [] right = refl
right-count [] (a ∷ given) right = absurd right
right-count (q ∷ qs) [] right = absurd right
right-count (q ∷ qs) (a ∷ given) right = ap suc (right-count qs given right.1)

-- What right answers to its questions come to makes its summary.
pub summary : (k : ℕ) (lines : List Line) (n : ℕ) (tally : Tally) (text : List ℕ) → AreSampleLines k lines
    → n ≡ feeds (sample_text k) → IsTally (behind_field lines).questions tally → text ≡ summary_text n tally
    → IsSummary k text
summary k lines n tally text are count is written = record {
  course = behind_field lines;
  of_sample = are.has;
  accepted = are.accepted;
  given = is.0;
  right = is.1;
  lines = sample-feeds k;
  answers = right-count (behind_field lines).questions is.0 is.1 ∙ are.count;
  written = written ∙ ap (λ m. summary_text m tally) count ∙ ap (summary_text (feeds (sample_text k))) is.2;
}
