-- Essential coordinates: the rows of a reduced row echelon form in place of the variables of its pivots.
use Rattle.std.specs.Prelude.{ℕ, ◌+◌, ◌-◌, ◌==◌, if◌then◌else◌, Bool, List, [], ◌∷◌, ◌++◌, map}
use Rattle.hp_algebra.specs.Ring.{RingOf}
use Rattle.hp_algebra.specs.Rows.{entry, unit_row}
use Rattle.hp_lists.specs.Lists.{list_any, one_to, range_with_len}
use Rattle.hp_mono.specs.Monomials.{variable, vars}
use Rattle.hp_poly.specs.Polynomials.{Poly, linear_form, term_poly}

-- whether column j, counted from 1, is a pivot
abbrev pub is_pivot : List ℕ → ℕ → Bool
is_pivot pivots j = list_any (λ c. c == j) pivots

-- the row with pivot j, and another where there is none
abbrev pub row_at : {K : Type 0} → List ℕ → List (List K) → ℕ → List K → List K
row_at [] rows j other = other
row_at (c ∷ cs) [] j other = other
row_at (c ∷ cs) (row ∷ rows) j other = if c == j then row else row_at cs rows j other

module _ {K : Type 0} (ring : RingOf K) (l : ℕ) (pivots : List ℕ) where
  -- the row for each of l variables: that of its pivot, or its unit row
  abbrev pub essential_rows : List (List K) → List (List K)
  essential_rows rows = map (λ j. row_at pivots rows j (unit_row ring l j)) (one_to l)

  -- the polynomials that stand for the variables
  abbrev pub essential_variables : List (List K) → List (Poly K)
  essential_variables rows =
      map (linear_form ring) (essential_rows rows) ++ map (λ j. term_poly ring ring.one (variable j)) (range_with_len (l + 1) (vars - l))

  -- the form without the variables that have no pivot
  abbrev pub essential_form : List K → List K
  essential_form a = map (λ j. if is_pivot pivots j then entry ring a (j - 1) else ring.zero) (one_to l)

-- which variables have a pivot
abbrev pub chosen : ℕ → List ℕ → List Bool
chosen l pivots = map (is_pivot pivots) (one_to l)
