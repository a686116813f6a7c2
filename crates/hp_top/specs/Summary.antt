-- The run of a sample: the words that ask for it, and the summary that it writes.
use Rattle.std.specs.Prelude.{◌≡◌, ℕ, ◌≤◌, ◌==◌, Bool, true, false, List, [], ◌∷◌, ◌++◌, length, codes, decimal, None}
use Rattle.std.specs.List.{count_by}
use Rattle.hp_render.specs.declared.answer.Answer.{Answer}
use Rattle.hp_render.specs.declared.answer.Answer.TheVariants.{Limit}
use Rattle.hp_sample.specs.Sample.{sample_text}
use Rattle.hp_top.specs.Course.{Asked, Course, HasCourse}
use Rattle.hp_top.specs.Text.{AreRight, texts_of}
use Rattle.hp_top.specs.declared.tally.Tally.{Tally}

-- the words `sample` and a number from 0 to 9999, in decimal without leading zeros
abbrev pub IsSampleWords : List (List ℕ) → ℕ → Type 0
IsSampleWords words k = (words ≡ codes "sample" ∷ decimal k ∷ []) × (k ≤ 9999)

-- how many line feeds there are
abbrev pub feeds : List ℕ → ℕ
feeds bytes = count_by (λ b. b == 10) bytes

abbrev pub is_limit : {K : Type 0} → Answer K → Bool
is_limit (Limit word kind) = true
is_limit other = false

-- what the answers to these questions come to: how many they are, how many of them are limits, and how many bytes their texts have
abbrev pub tally_of : List Asked → List (Answer ℕ) → Tally
tally_of qs given = record { answers = length given; limits = count_by is_limit given; bytes = length (texts_of qs given) }

-- the four lines
abbrev pub summary_text : ℕ → Tally → List ℕ
summary_text lines tally =
    codes "lines " ++ decimal lines ++ codes "\nanswers " ++ decimal tally.answers
    ++ codes "\nlimits " ++ decimal tally.limits ++ codes "\nbytes " ++ decimal tally.bytes ++ codes "\n"

-- The four lines of a right run of the sample script of a number. It is accepted, has 121 lines and asks 90 questions.
pub record IsSummary (k : ℕ) (text : List ℕ) : Type 0 where
  pub course : Course
  pub of_sample : HasCourse (sample_text k) course
  pub accepted : course.refused ≡ None
  pub given : List (Answer ℕ)
  pub right : AreRight course.questions given
  pub lines : feeds (sample_text k) ≡ 121
  pub answers : length given ≡ 90
  pub written : text ≡ summary_text (feeds (sample_text k)) (tally_of course.questions given)
