-- The arrangements of root systems, of coordinates and of graphs: their forms in order.
use Rattle.std.specs.Prelude.{ℕ, ◌+◌, ◌==◌, nat_lt, min, max, if◌then◌else◌, List, [], ◌∷◌, ◌++◌, map, filter, flat_map}
use Rattle.hp_algebra.specs.Ring.{RingOf}
use Rattle.hp_lists.specs.Lists.{one_to}
use Rattle.hp_algebra.specs.Rows.{unit_row}
use Rattle.hp_arr.specs.Arrangement.{Arrangement}

-- the pairs i < j of 1 to l, in lexicographic order
abbrev pub pairs : ℕ → List (ℕ × ℕ)
pairs l = flat_map (λ i. map (λ j. (i, j)) (filter (nat_lt i) (one_to l))) (one_to l)

module _ {K : Type 0} (ring : RingOf K) where
  open ring use {zero as 0ₖ, one as 1ₖ, neg}

  -- x_i + c x_j in l variables, and x_i where j is i
  abbrev pub two_terms : ℕ → ℕ → ℕ → K → List K
  two_terms l i j c = map (λ k. if k == i then 1ₖ else if k == j then c else 0ₖ) (one_to l)

  -- x_i - x_j in l variables
  abbrev pub difference : ℕ → ℕ → ℕ → List K
  difference l i j = two_terms l i j (neg 1ₖ)

  -- x_i + x_j in l variables
  abbrev pub sum_form : ℕ → ℕ → ℕ → List K
  sum_form l i j = two_terms l i j 1ₖ

  -- the braid arrangement: x_i - x_j for i < j in r + 1 variables
  abbrev pub type_a : ℕ → Arrangement K
  type_a r = record { dim = r + 1; forms = map (λ e. difference (r + 1) e.0 e.1) (pairs (r + 1)) }

  -- the coordinate hyperplanes: x_1 to x_r
  abbrev pub boolean : ℕ → Arrangement K
  boolean r = record { dim = r; forms = map (unit_row ring r) (one_to r) }

  -- x_i - x_j and x_i + x_j for each pair i < j
  abbrev pub type_d : ℕ → Arrangement K
  type_d r = record { dim = r; forms = flat_map (λ e. difference r e.0 e.1 ∷ sum_form r e.0 e.1 ∷ []) (pairs r) }

  -- the coordinates, and then the forms of type D
  abbrev pub type_b : ℕ → Arrangement K
  type_b r = record { dim = r; forms = (boolean r).forms ++ (type_d r).forms }

  -- for each edge, with ends i < j, the form x_i - x_j
  abbrev pub graphic : ℕ → List (ℕ × ℕ) → Arrangement K
  graphic v edges = record { dim = v; forms = map (λ e. difference v (min e.0 e.1) (max e.0 e.1)) edges }
