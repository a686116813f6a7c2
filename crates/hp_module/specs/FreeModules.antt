-- The terms of vectors, their degrees, and a graded free module with an order of its terms.
use Rattle.std.specs.Prelude.{◌≡◌, ℕ, ◌+◌, ◌-◌, List, [], ◌∷◌, ◌++◌, map, All, set, slice_index_or}
use Rattle.std.specs.declared.cmp.Ordering.{Ordering}
use Rattle.std.specs.Ordering.{nat_cmp, ordering_then}
use Rattle.hp_algebra.specs.Ring.{RingOf, IsField}
use Rattle.hp_sums.specs.FiniteSums.{total}
use Rattle.hp_mono.specs.declared.term.Term.{Term}
use Rattle.hp_mono.specs.Monomials.{degree}
use Rattle.hp_mono.specs.TermOrders.{IsTermOrder}
use Rattle.hp_poly.specs.Polynomials.{from_greatest, poly_plus, term_poly}
use Rattle.hp_module.specs.Vectors.{Vector, IsVector}

-- the terms of a vector with their coefficients, entry after entry, where the entries are counted from k
abbrev pub terms_from : {F : Type 0} → ℕ → Vector F → List (Term × F)
terms_from k [] = []
terms_from k (p ∷ v) = map (λ t. (record { mono = t.0; comp = k }, t.1)) p ++ terms_from (k + 1) v

abbrev pub terms : {F : Type 0} → Vector F → List (Term × F)
terms v = terms_from 1 v

-- the order in which a vector's terms are listed: by component, and the greatest monomial first
abbrev pub as_listed : Term → Term → Ordering
as_listed s t = ordering_then (nat_cmp s.comp t.comp) (from_greatest s.mono t.mono)

-- the coefficient of a vector at a term, which is zero where the term doesn't occur
abbrev pub coefficient_at : {F : Type 0} → RingOf F → Vector F → Term → F
coefficient_at ring v t = total as_listed ring (terms v) t

-- the vector v + c t
abbrev pub plus_term : {F : Type 0} → RingOf F → Vector F → Term → F → Vector F
plus_term ring v t c =
    set v (t.comp - 1) (poly_plus ring (slice_index_or v (t.comp - 1) []) (term_poly ring c t.mono))

-- the shift of a component, which is counted from 1
abbrev pub shift_of : List ℕ → ℕ → ℕ
shift_of shifts c = slice_index_or shifts (c - 1) 0

-- the degree of a term by the shifts of the components
abbrev pub term_degree : List ℕ → Term → ℕ
term_degree shifts t = degree t.mono + shift_of shifts t.comp

-- every term has degree d by the shifts. So zero is homogeneous of every degree
abbrev pub IsGraded : {F : Type 0} → List ℕ → ℕ → Vector F → Type 0
IsGraded shifts d v = All (λ t. term_degree shifts t.0 ≡ d) (terms v)

-- homogeneous by the shifts, of some degree
abbrev pub IsHomogeneousBy : {F : Type 0} → List ℕ → Vector F → Type 0
IsHomogeneousBy shifts v = (d : ℕ) × IsGraded shifts d v

-- The vectors of a width over the polynomials, with the shifts of the components and an order of the terms.
pub record FreeModule (F : Type 0) : Type 1 where
  pub ring : RingOf F
  pub inverse : F → F
  pub width : ℕ
  pub shifts : List ℕ
  pub cmp : Term → Term → Ordering

-- The coefficients are a field, and the order is one of terms.
pub record IsFreeModule {F : Type 0} (M : FreeModule F) : Type 0 where
  pub field : IsField M.ring M.inverse
  pub order : IsTermOrder M.width M.cmp

module _ {F : Type 0} (M : FreeModule F) where
  -- a vector of the module
  abbrev pub IsIn : Vector F → Type 0
  IsIn v = IsVector M.ring M.width v

  -- the degree of a term, and vectors of degree d
  abbrev pub degree_of : Term → ℕ
  degree_of t = term_degree M.shifts t

  abbrev pub HasDegree : ℕ → Vector F → Type 0
  HasDegree d v = IsGraded M.shifts d v
