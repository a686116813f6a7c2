-- The module of logarithmic derivations of an arrangement with multiplicities, and the larger module in which it is
-- computed.
use Rattle.std.specs.Prelude.{ℕ, ◌+◌, ◌-◌, ◌==◌, if◌then◌else◌, Bool, List, [], ◌++◌, map, filter, take, drop, length, slice_index_or}
use Rattle.hp_algebra.specs.Ring.{RingOf}
use Rattle.hp_algebra.specs.Rows.{entry}
use Rattle.hp_lists.specs.Lists.{one_to, list_all}
use Rattle.hp_arr.specs.Arrangement.{Arrangement, form}
use Rattle.hp_poly.specs.Polynomials.{Poly, constant, form_power}
use Rattle.hp_module.specs.Vectors.{Vector, IsGenerated}
use Rattle.hp_module.specs.Derivations.{IsDerivation}

-- the greatest multiplicity
abbrev pub most_multiplicity : ℕ
most_multiplicity = 20

-- the vector with p in component c, counted from 1, and zero elsewhere
abbrev pub in_component : {K : Type 0} → ℕ → Poly K → ℕ → Vector K
in_component width p c = map (λ k. if k == c then p else []) (one_to width)

module _ {K : Type 0} (ring : RingOf K) (arr : Arrangement K) (mult : List ℕ) where
  -- D(A, m): the derivations that carry each form into the ideal of its power, over the variables of the arrangement
  abbrev pub IsLogarithmic : Vector K → Type 0
  IsLogarithmic theta = IsDerivation ring arr.dim arr.forms mult theta

  -- the number of components of the larger module: one for each form, and one for each variable
  abbrev pub extended_width : ℕ
  extended_width = length arr.forms + arr.dim

  -- (a_1j, .., a_nj; e_j): what the derivation by x_j does to the forms, and the derivation itself
  abbrev pub column_generator : ℕ → Vector K
  column_generator j = map (λ a. constant ring (entry ring a (j - 1))) arr.forms ++ in_component arr.dim (constant ring ring.one) j

  -- the power of form i, counted from 1
  abbrev pub power_of : ℕ → Poly K
  power_of i = form_power ring (form arr i) (slice_index_or mult (i - 1) 0)

  -- the power of form i in component i
  abbrev pub power_generator : ℕ → Vector K
  power_generator i = in_component extended_width (power_of i) i

  -- the generators of N(A, m)
  abbrev pub extended_generators : List (Vector K)
  extended_generators = map column_generator (one_to arr.dim) ++ map power_generator (one_to (length arr.forms))

  -- N(A, m)
  abbrev pub IsExtended : Vector K → Type 0
  IsExtended v = IsGenerated ring extended_width extended_generators v

-- whether the first n entries are zero
abbrev pub has_zero_block : {K : Type 0} → ℕ → Vector K → Bool
has_zero_block n v = list_all (λ p. length p == 0) (take n v)

-- the other entries of the vectors whose first n entries are zero
abbrev pub second_blocks : {K : Type 0} → ℕ → List (Vector K) → List (Vector K)
second_blocks n vs = map (drop n) (filter (has_zero_block n) vs)
