-- What a run gives to the sink, as the text of a course or a part of it.
use Rattle.std.proofs.Common.{◌≡◌, ℕ, ◌+◌, Bool, nat_lt, List, [], ◌∷◌, ◌++◌, take, drop, length, Option, None, Err, refl, sym, ap, subst, ◌∙◌, append_assoc, length-append, arith}
use Rattle.std.specs.Bool.{if◌then◌else◌}
use Rattle.std.proofs.lemmas.List.{append-nil, take-append-drop}
use Rattle.std.proofs.Math.Seq.{take-append-add}
use Rattle.std.proofs.lemmas.Bool.Decides.{nat_tests}
use Rattle.hp_io.specs.Bytes.{Gave, GavePart}
use Rattle.hp_io.proofs.Givings.{gave_more}
use Rattle.hp_render.specs.Text.{refusal_text}
use Rattle.hp_render.specs.declared.answer.Answer.{Answer}
use Rattle.hp_render.specs.declared.refusal.Refusal.{Refusal}
use Rattle.hp_top.specs.Course.{Asked, Course, refused_at, nothing_asked, with_front}
use Rattle.hp_top.specs.Text.{refused_line, IsRightFor, text_of, AreRight, texts_of, AreAnswers, IsTextOf, IsPartOf, IsPrefix, first_questions}
use Rattle.hp_top.specs.Ends.{GaveText, GavePartOf, GaveFront, EndsBy, WritesText}
use Rattle.hp_top.specs.declared.status.Status.{Status}
use Rattle.hp_top.specs.declared.status.Status.TheVariants.{Done, ScriptRefused, ReadFault, WriteFault, TooLong, WordsRefused, OutOfMemory}

-- the line of a refusal is the text of a course that is refused at once, and its front a part of it
pub refused_text : (n : ℕ) (r : Refusal) → IsTextOf (refused_at n r) (refusal_text n r)
refused_text n r = ([], ([], tt, refl), refl)

pub refused_part : (n : ℕ) (r : Refusal) (bytes : List ℕ) → IsPrefix bytes (refusal_text n r)
    → IsPartOf (refused_at n r) bytes
refused_part n r bytes front = (0, refusal_text n r, ([], ([], tt, refl), refl), front)

-- the writing of the line of a refusal that was cut off
pub refused_cut : (n : ℕ) (r : Refusal) (s : Status) (before now : Option (List ℕ))
    → WritesText (refusal_text n r) (Err s) before now → EndsBy s (refused_at n r) before now
refused_cut n r WriteFault before now front = (front.0, refused_part n r front.0 front.1, front.2)
refused_cut n r OutOfMemory before now front = (front.0, refused_part n r front.0 front.1, front.2)
refused_cut n r Done before now none = absurd none
refused_cut n r ScriptRefused before now none = absurd none
refused_cut n r ReadFault before now none = absurd none
refused_cut n r TooLong before now none = absurd none
refused_cut n r WordsRefused before now none = absurd none

pub nothing_text : IsTextOf nothing_asked []
nothing_text = ([], ([], tt, refl), refl)

-- nothing is a part of every course
pub nothing_part : (c : Course) → IsPartOf c []
nothing_part c = (0, refused_line (first_questions 0 c).refused, ([], ([], tt, refl), refl), (refused_line (first_questions 0 c).refused, refl))

-- the answer to one question
pub one_answer : (q : Asked) (a : Answer ℕ) → IsRightFor q a → AreAnswers (q ∷ []) (text_of q a)
one_answer q a right = (a ∷ [], (right, tt), sym (append-nil (text_of q a)))

-- the front of the text of its one question is a part of the course
pub question_part : (q : Asked) (a : Answer ℕ) (c : Course) (bytes : List ℕ) → IsRightFor q a
    → IsPrefix bytes (text_of q a) → IsPartOf (with_front (q ∷ []) c) bytes
question_part q a c bytes right front =
    let line = refused_line (first_questions 1 (with_front (q ∷ []) c)).refused in
    let text = text_of q a in
    (1, text ++ line, (text, one_answer q a right, refl), (front.0 ++ line, ap (λ s. s ++ line) front.1 ∙ append_assoc bytes front.0 line))

-- the answers to the one list of questions, and then those to the other
pub right-append : (qs rs : List Asked) (given more : List (Answer ℕ)) → AreRight qs given → AreRight rs more
    → AreRight (qs ++ rs) (given ++ more)
right-append [] rs [] more p r = r
right-append [] rs (a ∷ given) more p r = absurd p
right-append (q ∷ qs) rs [] more p r = absurd p
right-append (q ∷ qs) rs (a ∷ given) more p r = (p.0, right-append qs rs given more p.1 r)

-- and their texts
pub texts-append : (qs rs : List Asked) (given more : List (Answer ℕ)) → AreRight qs given
    → texts_of (qs ++ rs) (given ++ more) ≡ texts_of qs given ++ texts_of rs more
texts-append [] rs [] more p = refl
texts-append [] rs (a ∷ given) more p = absurd p
texts-append (q ∷ qs) rs [] more p = absurd p
texts-append (q ∷ qs) rs (a ∷ given) more p =
    ap (λ s. text_of q a ++ s) (texts-append qs rs given more p.1)
    ∙ sym (append_assoc (text_of q a) (texts_of qs given) (texts_of rs more))

pub answers-append : (qs rs : List Asked) (xs ys : List ℕ) → AreAnswers qs xs → AreAnswers rs ys
    → AreAnswers (qs ++ rs) (xs ++ ys)
answers-append qs rs xs ys is more = (
  is.0 ++ more.0,
  right-append qs rs is.0 more.0 is.1 more.1,
  ap (λ s. s ++ ys) is.2 ∙ ap (λ s. texts_of qs is.0 ++ s) more.2 ∙ sym (texts-append qs rs is.0 more.0 is.1),
)

module _ (qs : List Asked) (texts : List ℕ) (answers : AreAnswers qs texts) where
  -- the text of a course behind these answers
  pub text_behind : (c : Course) (text : List ℕ) → IsTextOf c text → IsTextOf (with_front qs c) (texts ++ text)
  text_behind c text is = (
    texts ++ is.0,
    answers-append qs c.questions texts is.0 answers is.1,
    ap (λ s. texts ++ s) is.2 ∙ sym (append_assoc texts is.0 (refused_line c.refused)),
  )

  shifted : (n k m : ℕ) → nat_lt (n + k) (n + m) ≡ nat_lt k m
  shifted n k m = grind (arith, nat_tests)

  -- the first questions behind these
  first_behind : (k : ℕ) (c : Course) → with_front qs (first_questions k c) ≡ first_questions (length qs + k)
      (with_front qs c)
  first_behind k c =
      let n = length qs in
      let refused : Bool → Option (ℕ × Refusal) = λ b. if b then None else c.refused in
      let same : nat_lt k (length c.questions) ≡ nat_lt (n + k) (length (qs ++ c.questions)) =
      sym (shifted n k (length c.questions)) ∙ ap (λ m. nat_lt (n + k) m) (sym (length-append qs c.questions)) in
      ap (λ b. with_front qs (record { questions = take k c.questions; refused = refused b })) same
      ∙ ap (λ front. record { questions = front; refused = refused (nat_lt (n + k) (length (qs ++ c.questions))) }) (sym (take-append-add qs c.questions k))

  part_behind : (c : Course) (bytes : List ℕ) → IsPartOf c bytes → IsPartOf (with_front qs c) (texts ++ bytes)
  part_behind c bytes part =
      let k = part.0 in
      let text = part.1 in
      let whole = texts ++ text in (
        length qs + k,
        whole,
        subst (λ d. IsTextOf d whole) (first_behind k c) (text_behind (first_questions k c) text part.2),
        (part.3.0, ap (λ s. texts ++ s) part.3.1 ∙ sym (append_assoc texts bytes part.3.0)),
      )

  whole : (c : Course) (before middle now : Option (List ℕ)) → Gave before middle texts → GaveText c middle now
      → GaveText (with_front qs c) before now
  whole c before middle now given text = (texts ++ text.0, text_behind c text.0 text.1, gave_more before middle now texts text.0 given text.2)

  front : (c : Course) (before middle now : Option (List ℕ)) → Gave before middle texts → GavePartOf c middle now
      → GavePartOf (with_front qs c) before now
  front c before middle now given part = (texts ++ part.0, part_behind c part.0 part.1, gave_more before middle now texts part.0 given part.2)

  -- a run that gave these answers and then ends by a course
  pub ends_behind : (c : Course) (before middle now : Option (List ℕ)) → Gave before middle texts → (status : Status)
      → EndsBy status c middle now → EndsBy status (with_front qs c) before now
  ends_behind c before middle now given Done ends = (ends.0, whole c before middle now given ends.1)
  ends_behind c before middle now given ScriptRefused ends = (ends.0, whole c before middle now given ends.1)
  ends_behind c before middle now given WriteFault part = front c before middle now given part
  ends_behind c before middle now given OutOfMemory part = front c before middle now given part
  ends_behind c before middle now given ReadFault none = absurd none
  ends_behind c before middle now given TooLong none = absurd none
  ends_behind c before middle now given WordsRefused none = absurd none

-- a part of a text was given
pub given_front : (text : List ℕ) (before now : Option (List ℕ)) → GavePart before now text → GaveFront text before now
given_front text before now part = (take part.0 text, (drop part.0 text, sym (take-append-drop part.0 text)), part.2)
