-- Why a command is refused: the first row of a table that holds. Each row says when it holds, by a line for each command that it speaks of.
use Rattle.std.specs.Prelude.{◌==◌, nat_lt, not, [], ◌∷◌, Option, Some, None}
use Rattle.std.specs.List.{list_any}
use Rattle.std.specs.Option.{option_and_then}
use Rattle.hp_algebra.specs.Ring.{RingOf, Numbering}
use Rattle.hp_lists.specs.Lists.{first_some}
use Rattle.hp_arr.specs.declared.fault.ArrFault.{ArrFault}
use Rattle.hp_arr.specs.declared.fault.ArrFault.TheVariants as fault
use Rattle.hp_modp.specs.Primes.{listed_primes}
use Rattle.hp_render.specs.declared.refusal.Refusal.{Refusal}
use Rattle.hp_render.specs.declared.refusal.Refusal.TheVariants.{NoField, FieldTwice, FieldNotListed, NameTaken, ZeroForm, Repeated, TooMany, BadLimit}
use Rattle.hp_script.specs.declared.command.Command.{Command}
use Rattle.hp_script.specs.declared.command.Command.TheVariants.{Field, Let, LimitPairs, LimitDegree, Ask}
use Rattle.hp_session.specs.Building.{source_refusal, dimension_refusal, place_refusal, graph_refusal, build_fault}
use Rattle.hp_session.specs.Questions.{question_dimension, question_index, question_list}
use Rattle.hp_session.specs.Refused.{where_true, unknown_refusal}
use Rattle.hp_session.specs.State.{State, is_unknown, named, most_pairs, most_degree}

-- `no field`: a command other than `field` and `limit` before a field is chosen
abbrev pub no_field : Command → Option Refusal
no_field (Field p) = None
no_field (LimitPairs n) = None
no_field (LimitDegree n) = None
no_field other = Some NoField

-- `field twice`: `field` after a field is chosen
abbrev pub field_twice : Command → Option Refusal
field_twice (Field p) = Some FieldTwice
field_twice other = None

-- `field not listed`: the number is no listed prime
abbrev pub field_not_listed : Command → Option Refusal
field_not_listed (Field p) = where_true (not (list_any (λ q. q == p) listed_primes)) (FieldNotListed p)
field_not_listed other = None

-- `bad limit`: a limit above its greatest
abbrev pub bad_limit : Command → Option Refusal
bad_limit (LimitPairs n) = where_true (nat_lt most_pairs n) BadLimit
bad_limit (LimitDegree n) = where_true (nat_lt most_degree n) BadLimit
bad_limit other = None

-- `zero form`, `repeated` and `too many`: the refusal for a fault of forms; want of memory is none
abbrev pub refusal_of : ArrFault → Option Refusal
refusal_of (fault.ZeroForm i) = Some (ZeroForm i)
refusal_of (fault.Repeated i j) = Some (Repeated i j)
refusal_of (fault.TooMany n) = Some (TooMany n)
refusal_of fault.Memory = None

module _ {K : Type 0} (state : State K) where
  -- `unknown name`: a question, `delete` or `restrict` names no arrangement
  abbrev pub unknown_name : Command → Option Refusal
  unknown_name (Let x b) = source_refusal state b
  unknown_name (Ask x q) = unknown_refusal state x
  unknown_name other = None

  -- `name taken`: `let` names an arrangement that exists
  abbrev pub name_taken : Command → Option Refusal
  name_taken (Let x b) = where_true (not (is_unknown state x)) (NameTaken x)
  name_taken other = None

  -- `dimension`: that of a result is out of range, a row has the wrong length, or a question is not asked in that dimension
  abbrev pub bad_dimension : Command → Option Refusal
  bad_dimension (Let x b) = dimension_refusal state b
  bad_dimension (Ask x q) = question_dimension (named state x) q
  bad_dimension other = None

  -- `bad index`: there is no hyperplane of that number
  abbrev pub bad_index : Command → Option Refusal
  bad_index (Let x b) = place_refusal state b
  bad_index (Ask x q) = question_index (named state x) q
  bad_index other = None

  -- `bad list`: the list of a question has not as many numbers as there are hyperplanes, or a multiplicity is not from 0 to 20
  abbrev pub bad_list : Command → Option Refusal
  bad_list (Ask x q) = question_list (named state x) q
  bad_list other = None

-- `bad graph`: an edge is a loop, has an end that is no vertex, or joins what an earlier one joins
abbrev pub bad_graph : Command → Option Refusal
bad_graph (Let x b) = graph_refusal b
bad_graph other = None

module _ {K : Type 0} (ring : RingOf K) (inverse : K → K) (numbers : Numbering K) (state : State K) where
  -- `zero form`, `repeated`, `too many`: the fault of the forms
  abbrev pub bad_forms : Command → Option Refusal
  bad_forms (Let x b) = option_and_then refusal_of (build_fault ring inverse numbers state b)
  bad_forms other = None

  -- The table once a field is chosen: the refusal is the first row that holds.
  abbrev pub refusal : Command → Option Refusal
  refusal c = first_some (field_twice c
      ∷ unknown_name state c
      ∷ name_taken state c
      ∷ bad_dimension state c
      ∷ bad_index state c
      ∷ bad_graph c
      ∷ bad_forms c
      ∷ bad_list state c
      ∷ bad_limit c
      ∷ [])

-- The table before a field is chosen.
abbrev pub refusal_before_field : Command → Option Refusal
refusal_before_field c = first_some (no_field c
    ∷ field_not_listed c
    ∷ bad_limit c
    ∷ [])
