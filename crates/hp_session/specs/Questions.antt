-- What is said of each question: what is refused, and what a right answer is.
use Rattle.std.specs.Prelude.{◌≡◌, List, ℤ, Option, None}
use Rattle.hp_algebra.specs.Ring.{RingOf, Numbering}
use Rattle.hp_arr.specs.Arrangement.{Arrangement, IsLeastPointOff}
use Rattle.hp_arr.specs.Flats.{flats, total_rank}
use Rattle.hp_arr.specs.Moebius.{poincare, characteristic}
use Rattle.hp_arr.specs.Operations.{deletion, restriction}
use Rattle.hp_exterior.specs.Exterior.{Ext}
use Rattle.hp_os.specs.OrlikSolomon.{IsNormalForm}
use Rattle.hp_render.specs.declared.answer.Answer.{Answer}
use Rattle.hp_render.specs.declared.answer.Answer.TheVariants as answer
use Rattle.hp_render.specs.declared.answer.AskWord.TheVariants as asked
use Rattle.hp_render.specs.declared.refusal.Refusal.{Refusal}
use Rattle.hp_script.specs.declared.command.Question.{Question}
use Rattle.hp_script.specs.declared.command.Question.TheVariants as ask
use Rattle.hp_session.specs.Answers.{unless_many_flats, circuits_or_limit, nbc_or_limit, AreAomotoNumbersOrLimit}
use Rattle.hp_session.specs.DerivationAnswers.{UnlessStopped, IsBasisAnswer, IsGeneratorsAnswer}
use Rattle.hp_session.specs.Expressions.{expression_value}
use Rattle.hp_session.specs.Multiplicities.{multiplicities, multiplicities_refusal}
use Rattle.hp_session.specs.ResolutionAnswers.{IsResolutionAnswer, IsFreenessAnswer}
use Rattle.hp_session.specs.Refused.{line_refusal, index_refusal, expression_refusal, weights_refusal}
use Rattle.hp_groebner.specs.declared.limits.Limits.{Limits}

-- a question that is asked of no arrangement of that dimension
abbrev pub question_dimension : {K : Type 0} → Arrangement K → Question → Option Refusal
question_dimension arr ask.Hyperplanes = None
question_dimension arr ask.Point = None
question_dimension arr ask.Rank = None
question_dimension arr ask.Flats = None
question_dimension arr ask.Poincare = None
question_dimension arr ask.Characteristic = None
question_dimension arr (ask.Triple i) = line_refusal arr
question_dimension arr ask.Circuits = None
question_dimension arr ask.Nbc = None
question_dimension arr (ask.Normal products) = None
question_dimension arr (ask.Aomoto weights) = None
question_dimension arr (ask.Gb row) = None
question_dimension arr (ask.Der row) = None
question_dimension arr (ask.Resolve row) = None
question_dimension arr (ask.Free row) = None

-- a question with the number of a hyperplane that there is not
abbrev pub question_index : {K : Type 0} → Arrangement K → Question → Option Refusal
question_index arr ask.Hyperplanes = None
question_index arr ask.Point = None
question_index arr ask.Rank = None
question_index arr ask.Flats = None
question_index arr ask.Poincare = None
question_index arr ask.Characteristic = None
question_index arr (ask.Triple i) = index_refusal arr i
question_index arr ask.Circuits = None
question_index arr ask.Nbc = None
question_index arr (ask.Normal products) = expression_refusal arr products
question_index arr (ask.Aomoto weights) = None
question_index arr (ask.Gb row) = None
question_index arr (ask.Der row) = None
question_index arr (ask.Resolve row) = None
question_index arr (ask.Free row) = None

-- a question with a list that has not as many numbers as there are hyperplanes, or with numbers that are no multiplicities
abbrev pub question_list : {K : Type 0} → Arrangement K → Question → Option Refusal
question_list arr ask.Hyperplanes = None
question_list arr ask.Point = None
question_list arr ask.Rank = None
question_list arr ask.Flats = None
question_list arr ask.Poincare = None
question_list arr ask.Characteristic = None
question_list arr (ask.Triple i) = None
question_list arr ask.Circuits = None
question_list arr ask.Nbc = None
question_list arr (ask.Normal products) = None
question_list arr (ask.Aomoto weights) = weights_refusal arr weights
question_list arr (ask.Gb row) = multiplicities_refusal arr row
question_list arr (ask.Der row) = multiplicities_refusal arr row
question_list arr (ask.Resolve row) = multiplicities_refusal arr row
question_list arr (ask.Free row) = multiplicities_refusal arr row

module _ {K : Type 0} (ring : RingOf K) (inverse : K → K) (numbers : Numbering K) (limits : Limits) where
  -- the right answers of a question about an arrangement under the limits
  abbrev pub IsRightAnswer : Arrangement K → Question → Answer K → Type 0
  IsRightAnswer arr ask.Hyperplanes a = a ≡ answer.Hyperplanes arr.dim arr.forms
  IsRightAnswer arr ask.Point a = (x : List K) × IsLeastPointOff ring numbers arr x × (a ≡ answer.Point x)
  IsRightAnswer arr ask.Rank a = a ≡ answer.Rank (total_rank ring numbers arr)
  IsRightAnswer arr ask.Flats a = a ≡ unless_many_flats ring numbers arr asked.Flats (answer.Flats (flats ring numbers arr))
  IsRightAnswer arr ask.Poincare a = a ≡ unless_many_flats ring numbers arr asked.Poincare (answer.Poincare (poincare ring numbers arr))
  IsRightAnswer arr ask.Characteristic a = a ≡ unless_many_flats ring numbers arr asked.Characteristic (answer.Characteristic (characteristic ring numbers arr))
  IsRightAnswer arr (ask.Triple i) a =
      let pi : Arrangement K → List ℤ = poincare ring numbers in
      a ≡ unless_many_flats ring numbers arr asked.Triple (answer.Triple (pi arr) (pi (deletion arr i)) (pi (restriction ring inverse arr i)))
  IsRightAnswer arr ask.Circuits a = a ≡ circuits_or_limit ring numbers arr
  IsRightAnswer arr ask.Nbc a = a ≡ nbc_or_limit ring numbers arr
  IsRightAnswer arr (ask.Normal products) a =
      (r : Ext K) × IsNormalForm ring numbers arr (expression_value ring products) r × (a ≡ answer.Normal r)
  IsRightAnswer arr (ask.Aomoto weights) a = AreAomotoNumbersOrLimit ring numbers arr weights a
  IsRightAnswer arr (ask.Gb row) a =
      let mult = multiplicities arr row in
      UnlessStopped ring arr mult limits asked.Gb (IsBasisAnswer ring arr mult) a
  IsRightAnswer arr (ask.Der row) a =
      let mult = multiplicities arr row in
      UnlessStopped ring arr mult limits asked.Der (IsGeneratorsAnswer ring arr mult) a
  IsRightAnswer arr (ask.Resolve row) a =
      let mult = multiplicities arr row in
      UnlessStopped ring arr mult limits asked.Resolve (IsResolutionAnswer ring arr mult) a
  IsRightAnswer arr (ask.Free row) a =
      let mult = multiplicities arr row in
      UnlessStopped ring arr mult limits asked.Free (IsFreenessAnswer ring numbers arr mult) a
