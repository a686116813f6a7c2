-- Over a field, line by line: what the answers so far come to, and the course of the lines ahead.
use Rattle.std.proofs.Common.{◌≡◌, ℕ, ◌+◌, ◌-◌, ◌*◌, ◌^◌, ◌<◌, ◌≤◌, cond, List, [], ◌∷◌, ◌++◌, drop, length, length-append, Option, Some, None, refl, sym, ap, subst, ◌∙◌, append_assoc, append-nil, get_or, arith}
use Rattle.std.proofs.lemmas.List.Sums.{sum_by-append}
use Rattle.hp_modp.specs.Residues.{residue_numbers}
use Rattle.hp_render.specs.Text.{answer_text}
use Rattle.hp_render.specs.declared.answer.Answer.{Answer}
use Rattle.hp_render.specs.declared.refusal.Refusal.{Refusal}
use Rattle.hp_script.specs.declared.command.Command.{Command}
use Rattle.hp_script.specs.declared.command.Command.TheVariants.{Field, Let, LimitPairs, LimitDegree, Ask}
use Rattle.hp_script.specs.declared.command.Line.{Line}
use Rattle.hp_session.specs.State.{State}
use Rattle.hp_session.specs.Steps.{IsSilent}
use Rattle.hp_top.specs.Course.{Asked, Course, with_front, asks, line_course, refusal_over, after_over, course_after}
use Rattle.hp_top.specs.Ends.{AnswersOver}
use Rattle.hp_top.specs.Summary.{is_limit, tally_of}
use Rattle.hp_top.specs.Tallies.{IsTally, IsTallyOf, IsOneTally}
use Rattle.hp_top.specs.Text.{texts_of}
use Rattle.hp_top.specs.declared.tally.Tally.{Tally}
use Rattle.hp_top.proofs.Courses.{right-append, texts-append}
use Rattle.hp_top.proofs.Lines.{asks-silent, course_refused, line_ahead, nothing_ahead}

abbrev tally : ℕ → ℕ → ℕ → Tally
tally a l b = record { answers = a; limits = l; bytes = b }

same_tally : (a b c d e f : ℕ) → a ≡ b → c ≡ d → e ≡ f → tally a c e ≡ tally b d f
same_tally a b c d e f p q r = ap (λ n. tally n c e) p ∙ ap (λ n. tally b n e) q ∙ ap (λ n. tally b d n) r

abbrev pub no_tally : Tally
no_tally = tally 0 0 0

abbrev pub tally_sum : Tally → Tally → Tally
tally_sum t u = tally (t.answers + u.answers) (t.limits + u.limits) (t.bytes + u.bytes)

-- what answers come to, and then more
pub tally-append : (qs rs : List Asked) (t u : Tally) → IsTally qs t → IsTally rs u → IsTally (qs ++ rs) (tally_sum t u)
tally-append qs rs t u is more =
    let texts : length (texts_of (qs ++ rs) (is.0 ++ more.0)) ≡ length (texts_of qs is.0) + length (texts_of rs more.0) =
    ap length (texts-append qs rs is.0 more.0 is.1) ∙ length-append (texts_of qs is.0) (texts_of rs more.0) in (
      is.0 ++ more.0,
      right-append qs rs is.0 more.0 is.1 more.1,
      ap (λ s. tally_sum s u) is.2 ∙ ap (tally_sum (tally_of qs is.0)) more.2
          ∙ same_tally _ _ _ _ _ _ (sym (length-append is.0 more.0)) (sym (sum_by-append (λ a. cond (is_limit a) 1 0) is.0 more.0)) (sym texts),
    )

none_some : (r : ℕ × Refusal) → None ≡ Some r → ⊥
none_some r e = cc

module _ (p : ℕ) where
  -- a command that is no question adds nothing
  pub silent-tally : (state : State ℕ) (c : Command) → IsSilent c → IsTally (asks p state c) no_tally
  silent-tally state c silent = subst (λ qs. IsTally qs no_tally) (sym (asks-silent p state c silent)) ([], tt, refl)

  -- a question adds its answer
  pub asked-tally : (state : State ℕ) (c : Command) (a : Answer ℕ) (t : Tally) → AnswersOver p state c a
      → IsTallyOf p c a t → IsTally (asks p state c) t
  asked-tally state (Field n) a t none is = absurd none
  asked-tally state (Let y b) a t none is = absurd none
  asked-tally state (LimitPairs n) a t none is = absurd none
  asked-tally state (LimitDegree n) a t none is = absurd none
  asked-tally state (Ask y q) a t right is =
      let text = answer_text (residue_numbers p) y a in (
        a ∷ [],
        (right, tt),
        is ∙ same_tally 1 1 (cond (is_limit a) 1 0) (0 + cond (is_limit a) 1 0) (length text) (length (text ++ []))
            refl (plain (cond (is_limit a) 1 0)) (ap length (sym (append-nil text))),
      )
    where
      plain : (n : ℕ) → n ≡ 0 + n
      plain n = omega arith

  -- and leaves the state
  pub asked-after : (state : State ℕ) (c : Command) (a : Answer ℕ) → AnswersOver p state c a → after_over p state c ≡ state
  asked-after state (Field n) a none = absurd none
  asked-after state (Let y b) a none = absurd none
  asked-after state (LimitPairs n) a none = absurd none
  asked-after state (LimitDegree n) a none = absurd none
  asked-after state (Ask y q) a right = refl

  -- how far it has come: what the answers to some questions come to, and the course goes on from a state at line i
  pub record Tallying (whole : Course) (lines : List Line) (i : ℕ) (state : State ℕ) (tally : Tally) : Type 0 where
    pub questions : List Asked
    pub counted : IsTally questions tally
    pub ahead : whole ≡ with_front questions (course_after p state (drop i lines))
    pub answers : tally.answers ≤ i
    pub limits : tally.limits ≤ i
    pub bytes : tally.bytes ≤ i * (2 ^ 64 - 1)

  -- before the first line
  pub tallying_first : (state : State ℕ) (lines : List Line) → Tallying (course_after p state lines) lines 0 state no_tally
  tallying_first state lines = record { questions = []; counted = ([], tt, refl); ahead = refl; answers = omega arith; limits = omega arith; bytes = omega arith }

  module _ (whole : Course) (lines : List Line) (i : ℕ) (state : State ℕ) (tally : Tally) (going : Tallying whole lines i state tally) where
    -- behind the last line
    pub tallied : length lines ≤ i → IsTally whole.questions tally
    tallied past =
        let none = nothing_ahead p whole going.questions lines i state past going.ahead in
        subst (λ qs. IsTally qs tally) (sym (ap (λ (c : Course). c.questions) none ∙ append-nil going.questions)) going.counted

    module _ (line : Line) (within : i < length lines) (read : line ≡ get_or lines i line) where
      front_line : whole ≡ with_front going.questions (course_after p state (line ∷ drop (i + 1) lines))
      front_line = line_ahead p whole going.questions lines i state line within read going.ahead

      -- of a course without refusal no line is refused
      pub line_accepted : whole.refused ≡ None → refusal_over p state line.command ≡ None
      line_accepted none = by_case (refusal_over p state line.command) refl
        where
          by_case : (o : Option Refusal) → refusal_over p state line.command ≡ o → refusal_over p state line.command ≡ None
          by_case None e = e
          by_case (Some r) e =
              absurd (none_some (line.number, r) (sym none
              ∙ ap (λ (c : Course). c.refused) (front_line ∙ ap (with_front going.questions) (course_refused p state line (drop (i + 1) lines) r e))))

      -- one line further
      pub tallying_on : (next : State ℕ) (more : Tally) → refusal_over p state line.command ≡ None
          → IsTally (asks p state line.command) more → IsOneTally more → next ≡ after_over p state line.command
          → Tallying whole lines (i + 1) next (tally_sum tally more)
      tallying_on next more accepted is one same =
          let front = asks p state line.command in
          let rest = drop (i + 1) lines in
          let answered : course_after p state (line ∷ rest) ≡ with_front front (course_after p next rest) =
          ap (λ o. line_course o line.number front (course_after p (after_over p state line.command) rest)) accepted
          ∙ ap (λ s. with_front front (course_after p s rest)) (sym same) in
          record {
            questions = going.questions ++ front;
            counted = tally-append going.questions front tally more going.counted is;
            ahead = front_line ∙ ap (with_front going.questions) answered
                ∙ ap (λ qs. record { questions = qs; refused = (course_after p next rest).refused }) (sym (append_assoc going.questions front (course_after p next rest).questions));
            answers = omega (arith, going.answers, one.answers);
            limits = omega (arith, going.limits, one.limits);
            bytes = omega (arith, going.bytes, one.bytes);
          }
