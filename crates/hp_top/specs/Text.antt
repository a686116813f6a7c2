-- The bytes that a run writes: the texts of right answers in order, and the line of a refusal.
use Rattle.std.specs.Prelude.{◌≡◌, ℕ, nat_lt, if◌then◌else◌, List, [], ◌∷◌, ◌++◌, take, length, Option, Some, None}
use Rattle.hp_modp.specs.Residues.{residue_ring, inverse_mod, residue_numbers}
use Rattle.hp_render.specs.Text.{answer_text, refusal_text}
use Rattle.hp_render.specs.declared.answer.Answer.{Answer}
use Rattle.hp_render.specs.declared.refusal.Refusal.{Refusal}
use Rattle.hp_session.specs.Questions.{IsRightAnswer}
use Rattle.hp_top.specs.Course.{Asked, Course, HasCourse}

abbrev pub refused_line : Option (ℕ × Refusal) → List ℕ
refused_line None = []
refused_line (Some r) = refusal_text r.0 r.1

-- the answer is right, and this is its text
abbrev pub IsRightFor : Asked → Answer ℕ → Type 0
IsRightFor q a = IsRightAnswer (residue_ring q.p) (inverse_mod q.p) (residue_numbers q.p) q.limits q.arr q.question a

abbrev pub text_of : Asked → Answer ℕ → List ℕ
text_of q a = answer_text (residue_numbers q.p) q.name a

-- one right answer to each question, in order
abbrev pub AreRight : List Asked → List (Answer ℕ) → Type 0
AreRight [] [] = Unit {0}
AreRight [] (a ∷ more) = ⊥
AreRight (q ∷ qs) [] = ⊥
AreRight (q ∷ qs) (a ∷ more) = IsRightFor q a × AreRight qs more

-- the texts of the answers to these questions, in order
abbrev pub texts_of : List Asked → List (Answer ℕ) → List ℕ
texts_of [] given = []
texts_of (q ∷ qs) [] = []
texts_of (q ∷ qs) (a ∷ more) = text_of q a ++ texts_of qs more

-- the bytes are the texts of one right answer to each question, in order
abbrev pub AreAnswers : List Asked → List ℕ → Type 0
AreAnswers qs bytes = (given : List (Answer ℕ)) × AreRight qs given × (bytes ≡ texts_of qs given)

-- the text of a course: the answers to its questions, and the line of its refusal
abbrev pub IsTextOf : Course → List ℕ → Type 0
IsTextOf c text = (answers : List ℕ) × AreAnswers c.questions answers × (text ≡ answers ++ refused_line c.refused)

-- the course up to its first k questions, and behind all of them its refusal
abbrev pub first_questions : ℕ → Course → Course
first_questions k c = record { questions = take k c.questions; refused = (if nat_lt k (length c.questions) then None else c.refused) }

abbrev pub IsPrefix : List ℕ → List ℕ → Type 0
IsPrefix xs ys = (rest : List ℕ) × (ys ≡ xs ++ rest)

-- the bytes of a course that was cut off begin the text of its first k questions, for some k; nothing is said of answers that were not reached
abbrev pub IsPartOf : Course → List ℕ → Type 0
IsPartOf c bytes = (k : ℕ) × (text : List ℕ) × IsTextOf (first_questions k c) text × IsPrefix bytes text

-- the bytes of a right run of a script
abbrev pub IsRunText : List ℕ → List ℕ → Type 0
IsRunText script bytes = (c : Course) × HasCourse script c × IsTextOf c bytes

-- the bytes of a run of a script that was cut off
abbrev pub IsPartText : List ℕ → List ℕ → Type 0
IsPartText script bytes = (c : Course) × HasCourse script c × IsPartOf c bytes
