-- The search for circuits. It goes through independent sets; with each are kept the later forms, each as a remainder and a combination of the members.
use Rattle.std.specs.Prelude.{ℕ, zero, suc, Bool, if◌then◌else◌, not, ◌&&◌, List, [], ◌∷◌, ◌++◌, map, length, filter}
use Rattle.hp_algebra.specs.Ring.{RingOf}
use Rattle.hp_algebra.specs.Rows.{entry, is_zero_row}
use Rattle.hp_arr.specs.Arrangement.{Arrangement, form}
use Rattle.hp_arr.specs.Operations.{first_place}
use Rattle.hp_lists.specs.Lists.{below, list_all, list_any}
use Rattle.hp_sets.specs.Sets.{Set}
use Rattle.hp_circuits.specs.RowSteps.{less_multiple, share, reduced}
use Rattle.hp_circuits.specs.declared.circuit_search.Later.{Later}

-- all forms, before any member is chosen: each is its own remainder
abbrev pub all_later : {K : Type 0} → Arrangement K → List ℕ → List (Later K)
all_later arr names = map (λ j. record { name = j; rest = form arr j; coefficients = [] }) names

module _ {K : Type 0} (ring : RingOf K) where
  -- no coefficient is zero
  abbrev pub is_full : List K → Bool
  is_full c = list_all (λ a. not (ring.is_zero a)) c

  -- the remainder is not zero
  abbrev pub is_open : Later K → Bool
  is_open w = not (is_zero_row ring w.rest)

  -- the remainder is zero, and no coefficient is
  abbrev pub is_ready : Later K → Bool
  is_ready w = is_zero_row ring w.rest && is_full w.coefficients

  -- the coefficient at place k is zero for all forms that are left
  abbrev pub is_dead_at : List (Later K) → ℕ → Bool
  is_dead_at later k = list_all (λ d. ring.is_zero (entry ring d.coefficients k)) later

  -- some coefficient is zero for all forms that are left
  abbrev pub is_dead : Set → List (Later K) → Bool
  is_dead T later = list_any (is_dead_at later) (below (length T))

  -- the coefficients of w - s v, and s for the new member
  abbrev pub grown_coefficients : K → List K → List K → List K
  grown_coefficients s c e = less_multiple ring s c e ++ s ∷ []

  -- the sets that are closed by one of these forms
  abbrev pub closed : Set → List (Later K) → List Set
  closed T later = map (λ w. T ++ w.name ∷ []) (filter is_ready later)

  module _ (inverse : K → K) where
    -- the row operation: w modulo one form more, d, whose remainder is not zero at q
    abbrev pub moved : ℕ → Later K → Later K → Later K
    moved q d w = record {
      name = w.name;
      rest = reduced ring inverse q d.rest w.rest;
      coefficients = grown_coefficients (share ring inverse q d.rest w.rest) d.coefficients w.coefficients;
    }

    -- the later forms modulo d as well
    abbrev pub moved_all : Later K → List (Later K) → List (Later K)
    moved_all d later = map (moved (first_place ring d.rest) d) later

    -- The circuits that have T and otherwise only later forms. For each form d in turn: those that close with one form more, those that go on from T with d, and then those without d. Where some coefficient is zero for all forms that are left there are none. The number bounds how many forms are left.
    unfoldable pub search : ℕ → Set → List (Later K) → List Set
    search zero T later = []
    search (suc f) T [] = []
    search (suc f) T (d ∷ later) = if is_dead T (d ∷ later) then []
        else ((closed (T ++ d.name ∷ []) (moved_all d later) ++ search f (T ++ d.name ∷ []) (filter is_open (moved_all d later))) ++ search f T later)

    abbrev pub searched : Set → List (Later K) → List Set
    searched T later = search (length later) T later
