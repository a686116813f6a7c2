-- The table of refusals for a `let`, and a command that is stopped.
use Rattle.std.proofs.Common.{◌≡◌, ℕ, List, [], ◌∷◌, Option, Some, None, is_none, refl, ap, ◌∙◌}
use Rattle.std.specs.Option.{option_and_then, unwrap_or}
use Rattle.hp_lists.specs.Lists.{first_some}
use Rattle.hp_algebra.specs.Ring.{RingOf, Numbering}
use Rattle.hp_arr.specs.Arrangement.{Arrangement}
use Rattle.hp_script.specs.declared.command.Build.{Build}
use Rattle.hp_render.specs.declared.refusal.Refusal.{Refusal}
use Rattle.hp_render.specs.declared.refusal.Refusal.TheVariants.{UnknownName}
use Rattle.hp_script.specs.declared.command.Command.{Command}
use Rattle.hp_script.specs.declared.command.Command.TheVariants.{Let, Ask}
use Rattle.hp_script.specs.declared.command.Question.{Question}
use Rattle.hp_session.specs.Questions.{question_dimension, question_index, question_list}
use Rattle.hp_session.specs.Refused.{unknown_refusal, where_true}
use Rattle.hp_session.specs.Building.{source_refusal, dimension_refusal, place_refusal, graph_refusal, build_fault}
use Rattle.hp_session.specs.Refusals.{name_taken, refusal_of, refusal}
use Rattle.hp_session.specs.State.{State, lookup, named}
use Rattle.hp_session.specs.Steps.{Steps}
use Rattle.hp_session.specs.Stops.{StopsBy, step_of, let_refusal, ask_refusal, question_refusal}
use Rattle.hp_session.specs.declared.stop.Stop.{Stop}
use Rattle.hp_session.specs.declared.stop.Stop.TheVariants.{Refused, Memory}

last_four : {X : Type 0} (a b c d e f : Option X)
    → first_some (a ∷ b ∷ c ∷ d ∷ e ∷ f ∷ None ∷ None ∷ []) ≡ first_some (a ∷ b ∷ first_some (c ∷ d ∷ e ∷ f ∷ []) ∷ [])
last_four (Some x) b c d e f = refl
last_four None (Some x) c d e f = refl
last_four None None (Some x) d e f = refl
last_four None None None (Some x) e f = refl
last_four None None None None (Some x) f = refl
last_four None None None None None (Some x) = refl
last_four None None None None None None = refl

of_question : {X : Type 0} (a b c d : Option X)
    → first_some (None ∷ a ∷ None ∷ b ∷ c ∷ None ∷ None ∷ d ∷ None ∷ [])
    ≡ first_some (a ∷ first_some (b ∷ c ∷ d ∷ []) ∷ [])
of_question (Some x) b c d = refl
of_question None (Some x) c d = refl
of_question None None (Some x) d = refl
of_question None None None (Some x) = refl
of_question None None None None = refl

-- a question about an arrangement that has the name is refused for what it asks of it
pub ask-known : {K : Type 0} (state : State K) (x : List ℕ) (q : Question) (arr : Arrangement K)
    → lookup state.names x ≡ Some arr → question_refusal arr q ≡ None → ask_refusal state x q ≡ None
ask-known {K} state x q arr known free =
    let none : Arrangement K = record { dim = 0; forms = [] } in
    (λ i. first_some (where_true (is_none (known i)) (UnknownName x) ∷ question_refusal (unwrap_or (known i) none) q ∷ []))
    ∙ ap (λ o. first_some (o ∷ [])) free

module _ {K : Type 0} (ring : RingOf K) (inverse : K → K) (numbers : Numbering K) (state : State K) where
  -- the rows that may hold for a `let`
  pub table-let : (x : List ℕ) (b : Build)
      → refusal ring inverse numbers state (Let x b) ≡ let_refusal ring inverse numbers state x b
  table-let x b =
      last_four (source_refusal state b) (name_taken state (Let x b)) (dimension_refusal state b) (place_refusal state b)
      (graph_refusal b) (option_and_then refusal_of (build_fault ring inverse numbers state b))

  -- the rows that may hold for a question
  pub table-ask : (x : List ℕ) (q : Question)
      → refusal ring inverse numbers state (Ask x q) ≡ ask_refusal state x q
  table-ask x q =
      of_question (unknown_refusal state x) (question_dimension (named state x) q) (question_index (named state x) q)
      (question_list (named state x) q)

  -- a command that is stopped by its refusal, or by want of memory, and keeps the state
  pub steps_stopped : (next : State K) (c : Command) (o : Option Refusal) (stop : Stop)
      → refusal ring inverse numbers state c ≡ o → StopsBy o stop → next ≡ state
      → Steps ring inverse numbers state c (step_of stop) next
  steps_stopped next c o (Refused r) table by kept = (table ∙ by, kept)
  steps_stopped next c o Memory table by kept = kept
