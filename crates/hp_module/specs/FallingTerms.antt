-- Lists of terms that fall in an order of terms, component by component.
use Rattle.std.specs.Prelude.{◌≡◌, ◌≢◌, ℕ, ◌+◌, ◌-◌, ◌<◌, ◌==◌, Bool, true, false, List, [], ◌∷◌, ◌++◌, map, length, set, All, Contains, Some, replicate, slice_get, slice_index_or}
use Rattle.std.specs.declared.cmp.Ordering.{Ordering}
use Rattle.std.specs.declared.cmp.Ordering.TheVariants.{Less, Greater}
use Rattle.hp_algebra.specs.Ring.{RingOf}
use Rattle.hp_sums.specs.FiniteSums.{IsSum}
use Rattle.hp_mono.specs.declared.term.Term.{Term}
use Rattle.hp_mono.specs.Monomials.{Monomial, IsMonomial, vars}
use Rattle.hp_poly.specs.Polynomials.{Poly, from_greatest, poly_of}
use Rattle.hp_module.specs.Vectors.{Vector}
use Rattle.hp_module.specs.FreeModules.{FreeModule}
use Rattle.hp_module.specs.Leads.{IsGreatestTerm, WithLeads}

abbrev pub by_validity : (Term → Term → Ordering) → ℕ → Bool → Bool → Monomial → Monomial → Ordering
by_validity cmp k true true a b = cmp (record { mono = b; comp = k }) (record { mono = a; comp = k })
by_validity cmp k true false a b = Less
by_validity cmp k false true a b = Greater
by_validity cmp k false false a b = from_greatest a b

-- The monomials in component k, the greatest term first. Lists that are no monomials stand behind them, so that any two
-- lists are compared.
abbrev pub component_order : (Term → Term → Ordering) → ℕ → Monomial → Monomial → Ordering
component_order cmp k a b = by_validity cmp k (length a == vars) (length b == vars) a b

module _ {F : Type 0} (ring : RingOf F) where
  -- Terms of component k that fall strictly in the order, with no coefficient zero.
  pub record IsFalling (cmp : Term → Term → Ordering) (k : ℕ) (xs : Poly F) : Type 0 where
    pub is_sum : IsSum (component_order cmp k) ring xs
    pub monomials : All (λ t. IsMonomial t.0) xs

  -- Falling terms for each component.
  pub record AreFalling (cmp : Term → Term → Ordering) (width : ℕ) (parts : Vector F) : Type 0 where
    pub long : length parts ≡ width
    pub each : (j : ℕ) → j < width → IsFalling cmp (j + 1) (slice_index_or parts j [])

  -- the vector with these terms
  abbrev pub vector_of : Vector F → Vector F
  vector_of parts = map (poly_of ring) parts

  -- terms with values as coefficients, in any order
  abbrev pub IsTerms : Poly F → Type 0
  IsTerms xs = All (λ t. IsMonomial t.0 × ring.IsValue t.1 × (t.1 ≢ ring.zero)) xs

-- A member of a list to divide by: its lead, the inverse of the lead's coefficient, and its terms for each component.
pub record Divisor (F : Type 0) : Type 0 where
  pub lead : Term
  pub inverse : F
  pub parts : Vector F

-- The members to divide by, and for each component the leads in it, each with the place of its member.
pub record Divisors (F : Type 0) : Type 0 where
  pub members : List (Divisor F)
  pub listed : List (List (Monomial × ℕ))

module _ {F : Type 0} (ring : RingOf F) where
  -- the members as vectors, with their leads
  abbrev pub with_leads : Divisors F → WithLeads F
  with_leads d = record { members = map (λ m. vector_of ring m.parts) d.members; leads = map (λ m. m.lead) d.members }

  -- The terms fall, and the lead is the greatest, with a coefficient of which the inverse is kept.
  pub record IsDivisor (cmp : Term → Term → Ordering) (width : ℕ) (m : Divisor F) : Type 0 where
    pub falling : AreFalling ring cmp width m.parts
    pub first : F
    pub greatest : IsGreatestTerm cmp (vector_of ring m.parts) m.lead first
    pub inverse_value : ring.IsValue m.inverse
    pub inverse_is : ring.mul m.inverse first ≡ ring.one

  -- Each member's lead is listed in its component, and what is listed is the lead of the member at that place.
  pub record AreDivisors (cmp : Term → Term → Ordering) (width : ℕ) (d : Divisors F) : Type 0 where
    pub members : All (IsDivisor cmp width) d.members
    pub long : length d.listed ≡ width
    pub listed : (j : ℕ) (m : Divisor F) → slice_get d.members j ≡ Some m
        → Contains (slice_index_or d.listed (m.lead.comp - 1) []) (m.lead.mono, j)
    pub places : (c : ℕ) → c < width
        → All (λ u. (m : Divisor F) × (slice_get d.members u.1 ≡ Some m) × (m.lead ≡ record { mono = u.0; comp = c + 1 }))
        (slice_index_or d.listed c [])

-- no members, for vectors of a width
abbrev pub no_divisors : {F : Type 0} → ℕ → Divisors F
no_divisors width = record { members = []; listed = replicate width [] }

-- one member more, whose lead is listed in its component
abbrev pub with_member : {F : Type 0} → Divisors F → Divisor F → Divisors F
with_member d m = record {
  members = d.members ++ m ∷ [];
  listed = set d.listed (m.lead.comp - 1) (slice_index_or d.listed (m.lead.comp - 1) [] ++ (m.lead.mono, length d.members) ∷ []);
}

-- the vectors of a width, with shifts and an order
abbrev pub free_module : {F : Type 0} → RingOf F → (F → F) → ℕ → List ℕ → (Term → Term → Ordering) → FreeModule F
free_module ring inverse width shifts cmp = record { ring = ring; inverse = inverse; width = width; shifts = shifts; cmp = cmp }
