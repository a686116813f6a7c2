-- What a `let` builds, and why a build is refused, each by a line for each build.
use Rattle.std.specs.Prelude.{ℕ, ◌+◌, ◌==◌, nat_le, Bool, not, ◌&&◌, ◌||◌, List, length, map, ℤ, Option, None}
use Rattle.std.specs.List.{list_any}
use Rattle.std.specs.Option.{option_map}
use Rattle.hp_algebra.specs.Ring.{RingOf, Numbering, integer}
use Rattle.hp_arr.specs.Arrangement.{Arrangement, max_dim}
use Rattle.hp_arr.specs.FormFaults.{form_fault, too_many_fault}
use Rattle.hp_arr.specs.Operations.{cone, deletion, restriction}
use Rattle.hp_arr.specs.declared.fault.ArrFault.{ArrFault}
use Rattle.hp_build.specs.Families.{boolean, graphic, type_a, type_b, type_d}
use Rattle.hp_build.specs.Graphs.{bad_edge}
use Rattle.hp_render.specs.declared.refusal.Refusal.{Refusal}
use Rattle.hp_render.specs.declared.refusal.Refusal.TheVariants.{Dimension, BadGraph}
use Rattle.hp_script.specs.declared.command.Build.{Build}
use Rattle.hp_script.specs.declared.command.Build.TheVariants as build
use Rattle.hp_session.specs.Refused.{where_true, unknown_refusal, line_refusal, index_refusal}
use Rattle.hp_session.specs.State.{State, named}

module _ {K : Type 0} (ring : RingOf K) where
  -- rows of integers as rows of field elements
  abbrev pub rows_of : List (List ℤ) → List (List K)
  rows_of rows = map (map (integer ring)) rows

  module _ (inverse : K → K) where
    -- the arrangement that is built in a state
    abbrev pub built : State K → Build → Arrangement K
    built state (build.Forms l rows) = record { dim = l; forms = rows_of rows }
    built state (build.Cone l rows) = cone ring l (rows_of rows)
    built state (build.TypeA r) = type_a ring r
    built state (build.TypeB r) = type_b ring r
    built state (build.TypeD r) = type_d ring r
    built state (build.Boolean r) = boolean ring r
    built state (build.Graphic v edges) = graphic ring v edges
    built state (build.Delete x i) = deletion (named state x) i
    built state (build.Restrict x i) = restriction ring inverse (named state x) i

-- a dimension is 1 to the greatest
abbrev pub is_dimension : ℕ → Bool
is_dimension l = nat_le 1 l && nat_le l max_dim

-- some row has not as many numbers
abbrev pub has_wrong_length : ℕ → List (List ℤ) → Bool
has_wrong_length l rows = list_any (λ row. not (length row == l)) rows

-- the dimension is out of range
abbrev pub range_refusal : ℕ → Option Refusal
range_refusal l = where_true (not (is_dimension l)) Dimension

-- the dimension is out of range, or a row has not as many numbers
abbrev pub rows_refusal : ℕ → List (List ℤ) → Option Refusal
rows_refusal l rows = where_true (not (is_dimension l) || has_wrong_length l rows) Dimension

module _ {K : Type 0} (state : State K) where
  -- the name of what is cut down is not known
  abbrev pub source_refusal : Build → Option Refusal
  source_refusal (build.Delete x i) = unknown_refusal state x
  source_refusal (build.Restrict x i) = unknown_refusal state x
  source_refusal other = None

  -- the dimension of the result is out of range, or a row has the wrong length
  abbrev pub dimension_refusal : Build → Option Refusal
  dimension_refusal (build.Forms l rows) = rows_refusal l rows
  dimension_refusal (build.Cone l rows) = rows_refusal (l + 1) rows
  dimension_refusal (build.TypeA r) = range_refusal (r + 1)
  dimension_refusal (build.TypeB r) = range_refusal r
  dimension_refusal (build.TypeD r) = range_refusal r
  dimension_refusal (build.Boolean r) = range_refusal r
  dimension_refusal (build.Graphic v edges) = range_refusal v
  dimension_refusal (build.Delete x i) = None
  dimension_refusal (build.Restrict x i) = line_refusal (named state x)

  -- there is no hyperplane of the number
  abbrev pub place_refusal : Build → Option Refusal
  place_refusal (build.Delete x i) = index_refusal (named state x) i
  place_refusal (build.Restrict x i) = index_refusal (named state x) i
  place_refusal other = None

-- an edge of a graph is bad
abbrev pub graph_refusal : Build → Option Refusal
graph_refusal (build.Graphic v edges) = option_map BadGraph (bad_edge v edges)
graph_refusal other = None

module _ {K : Type 0} (ring : RingOf K) (inverse : K → K) (numbers : Numbering K) (state : State K) where
  -- The fault of the forms that are built. Forms that are given may have any; a family may have too many; what is cut out of an arrangement has none.
  abbrev pub build_fault : Build → Option ArrFault
  build_fault (build.Forms l rows) = form_fault ring numbers (rows_of ring rows)
  build_fault (build.Cone l rows) = form_fault ring numbers (cone ring l (rows_of ring rows)).forms
  build_fault (build.Delete x i) = None
  build_fault (build.Restrict x i) = None
  build_fault family = too_many_fault numbers (built ring inverse state family).forms
