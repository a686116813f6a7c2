-- What stops a command, as the private functions say it.
use Rattle.std.specs.Prelude.{◌≡◌, not, List, ℕ, [], ◌∷◌, Option, Some}
use Rattle.std.specs.Option.{option_and_then}
use Rattle.hp_lists.specs.Lists.{first_some}
use Rattle.hp_algebra.specs.Ring.{RingOf, Numbering}
use Rattle.hp_arr.specs.Arrangement.{Arrangement}
use Rattle.hp_arr.specs.declared.fault.ArrFault.{ArrFault}
use Rattle.hp_arr.specs.declared.fault.ArrFault.TheVariants as fault
use Rattle.hp_build.specs.declared.fault.BuildFault.{BuildFault}
use Rattle.hp_build.specs.declared.fault.BuildFault.TheVariants as family
use Rattle.hp_build.specs.declared.fault.GraphFault.{GraphFault}
use Rattle.hp_build.specs.declared.fault.GraphFault.TheVariants as graph
use Rattle.hp_render.specs.declared.refusal.Refusal.{Refusal}
use Rattle.hp_render.specs.declared.refusal.Refusal.TheVariants as refusal
use Rattle.hp_script.specs.declared.command.Build.{Build}
use Rattle.hp_script.specs.declared.command.Question.{Question}
use Rattle.hp_session.specs.Building.{source_refusal, dimension_refusal, place_refusal, graph_refusal, build_fault}
use Rattle.hp_session.specs.Questions.{question_dimension, question_index, question_list}
use Rattle.hp_session.specs.Refusals.{refusal_of}
use Rattle.hp_session.specs.Refused.{where_true, unknown_refusal}
use Rattle.hp_session.specs.State.{State, is_unknown, named}
use Rattle.hp_session.specs.declared.session.Step.{Step}
use Rattle.hp_session.specs.declared.session.Step.TheVariants as step
use Rattle.hp_session.specs.declared.stop.Stop.{Stop}
use Rattle.hp_session.specs.declared.stop.Stop.TheVariants.{Refused, Memory}

-- it is this refusal, or memory is out
abbrev pub StopsBy : Option Refusal → Stop → Type 0
StopsBy o (Refused r) = o ≡ Some r
StopsBy o Memory = Unit {0}

-- what a command does that is stopped
abbrev pub step_of : {K : Type 0} → Stop → Step K
step_of (Refused r) = step.Refused r
step_of Memory = step.Memory

-- the stop for a fault of forms, of a family's forms, and of a graph
abbrev pub stop_of_forms : ArrFault → Stop
stop_of_forms (fault.ZeroForm i) = Refused (refusal.ZeroForm i)
stop_of_forms (fault.Repeated i j) = Refused (refusal.Repeated i j)
stop_of_forms (fault.TooMany n) = Refused (refusal.TooMany n)
stop_of_forms fault.Memory = Memory

abbrev pub stop_of_family : BuildFault → Stop
stop_of_family (family.TooMany n) = Refused (refusal.TooMany n)
stop_of_family family.Memory = Memory

abbrev pub stop_of_graph : GraphFault → Stop
stop_of_graph (graph.BadGraph k) = Refused (refusal.BadGraph k)
stop_of_graph (graph.TooMany n) = Refused (refusal.TooMany n)
stop_of_graph graph.Memory = Memory

-- the refusals of what is built, in the order of the table: the dimension, no hyperplane of that number, a bad edge, the fault of the forms
abbrev pub refusal_in_order : Option Refusal → Option Refusal → Option Refusal → Option ArrFault → Option Refusal
refusal_in_order dimension place graph forms = first_some (dimension ∷ place ∷ graph ∷ option_and_then refusal_of forms ∷ [])

module _ {K : Type 0} (ring : RingOf K) (inverse : K → K) (numbers : Numbering K) (state : State K) where
  -- the refusal of a build where its source is known and the name is free
  abbrev pub build_refusal : Build → Option Refusal
  build_refusal b = refusal_in_order (dimension_refusal state b) (place_refusal state b) (graph_refusal b) (build_fault ring inverse numbers state b)

  -- the refusal of a `let`
  abbrev pub let_refusal : List ℕ → Build → Option Refusal
  let_refusal x b = first_some (source_refusal state b ∷ where_true (not (is_unknown state x)) (refusal.NameTaken x) ∷ build_refusal b ∷ [])

-- the refusal of a question about an arrangement
abbrev pub question_refusal : {K : Type 0} → Arrangement K → Question → Option Refusal
question_refusal arr q = first_some (question_dimension arr q ∷ question_index arr q ∷ question_list arr q ∷ [])

-- the refusal of a question about an arrangement of that name
abbrev pub ask_refusal : {K : Type 0} → State K → List ℕ → Question → Option Refusal
ask_refusal state x q = first_some (unknown_refusal state x ∷ question_refusal (named state x) q ∷ [])
