-- Division of a vector by vectors with remainder, and the steps of the division.
use Rattle.std.specs.Prelude.{◌≡◌, ◌≢◌, ℕ, ◌+◌, ◌<◌, max, cond, Bool, List, [], ◌∷◌, map, flat_map, length, All, slice_index_or}
use Rattle.std.specs.declared.cmp.Ordering.TheVariants.{Greater}
use Rattle.std.specs.Ordering.{is_lt}
use Rattle.hp_lists.specs.Lists.{below, one_to, words_over}
use Rattle.hp_mono.specs.declared.term.Term.{Term}
use Rattle.hp_mono.specs.Monomials.{Monomial, IsMonomial, vars}
use Rattle.hp_mono.specs.TermOrders.{TermDivides, times}
use Rattle.hp_poly.specs.Polynomials.{IsHomogeneous, term_poly}
use Rattle.hp_module.specs.Vectors.{Vector, IsVector, zero_vector, vector_plus, vector_scale, combination}
use Rattle.hp_module.specs.FreeModules.{FreeModule, IsIn, HasDegree, degree_of, terms, coefficient_at, plus_term}
use Rattle.hp_module.specs.Leads.{IsGreatestTerm, WithLeads, member_at, lead_at, lead_times}

-- how many of the list pass the test
abbrev pub tally : {X : Type 0} → (X → Bool) → List X → ℕ
tally test [] = 0
tally test (x ∷ xs) = cond (test x) 1 0 + tally test xs

-- all terms with these components and exponents up to n
abbrev pub terms_up_to : ℕ → ℕ → List Term
terms_up_to width n =
    flat_map (λ c. map (λ m. record { mono = m; comp = c }) (words_over (below (n + 1)) vars)) (one_to width)

-- no lead divides the term
abbrev pub HasNoDivisor : {F : Type 0} → WithLeads F → Term → Type 0
HasNoDivisor s t = All (λ u. ¬ (TermDivides u t)) s.leads

module _ {F : Type 0} (M : FreeModule F) where
  open M use {ring, width, cmp}

  -- A division of v by vectors b: v = q_1 b_1 + .. + q_s b_s + r. No term of r is a multiple of a member's greatest
  -- term, and no greatest term of a q_i b_i is above that of v.
  pub record IsDivision (v : Vector F) (basis : List (Vector F)) (qs r : Vector F) : Type 0 where
    pub quotients : IsVector ring (length basis) qs
    pub rest : IsIn M r
    pub sum : v ≡ vector_plus ring (combination ring width qs basis) r
    pub free : (i : ℕ) (t : Term) (c : F) → i < length basis → IsGreatestTerm cmp (slice_index_or basis i []) t c
        → All (λ s. ¬ (TermDivides t s.0)) (terms r)
    pub not_above : (i : ℕ) (s t : Term) (c d : F) → i < length basis
        → IsGreatestTerm cmp (vector_scale ring (slice_index_or qs i []) (slice_index_or basis i [])) s c
        → IsGreatestTerm cmp v t d → cmp s t ≢ Greater
    -- each quotient is homogeneous; the products and the remainder have the degree of v
    pub homogeneous : All (λ q. (d : ℕ) × IsHomogeneous ring d q) qs
    pub degrees : (d : ℕ) (i : ℕ) → HasDegree M d v → i < length basis
        → HasDegree M d (vector_scale ring (slice_index_or qs i []) (slice_index_or basis i []))
    pub rest_degrees : (d : ℕ) → HasDegree M d v → HasDegree M d r
    pub of_zero : v ≡ zero_vector ring width → (qs ≡ zero_vector ring (length basis)) × (r ≡ zero_vector ring width)

  -- The same with the leads at hand, said of each term of the quotients: a term m of q_i stands for m b_i, whose lead
  -- is not above that of v and has its degree.
  pub record IsDivided (v : Vector F) (s : WithLeads F) (qs r : Vector F) : Type 0 where
    pub quotients : IsVector ring (length s.members) qs
    pub rest : IsIn M r
    pub sum : v ≡ vector_plus ring (combination ring width qs s.members) r
    pub free : All (λ u. All (λ a. ¬ (TermDivides u a.0)) (terms r)) s.leads
    pub not_above : (t : Term) (c : F) → IsGreatestTerm cmp v t c
        → All (λ a. cmp (lead_times s a.0) t ≢ Greater) (terms qs)
    pub rest_not_above : (t : Term) (c : F) → IsGreatestTerm cmp v t c → All (λ a. cmp a.0 t ≢ Greater) (terms r)
    pub degrees : (d : ℕ) → HasDegree M d v → All (λ a. degree_of M (lead_times s a.0) ≡ d) (terms qs)
    pub rest_degrees : (d : ℕ) → HasDegree M d v → HasDegree M d r
    pub of_zero : v ≡ zero_vector ring width
        → (qs ≡ zero_vector ring (length s.members)) × (r ≡ zero_vector ring width)

  -- The multiple of member j whose lead is that of the rest, t, is taken from the rest and added to the quotients.
  pub record IsSubtracted (s : WithLeads F) (j : ℕ) (t : Term) (rest qs rest' qs' : Vector F) : Type 0 where
    pub mono : Monomial
    pub is_mono : IsMonomial mono
    pub is_lead : times mono (lead_at s j) ≡ t
    pub first : F
    pub rest_first : IsGreatestTerm cmp rest t first
    pub member_first : F
    pub member_lead : IsGreatestTerm cmp (member_at s j) (lead_at s j) member_first
    pub factor : F
    pub factor_value : ring.IsValue factor
    pub factor_is : ring.mul factor member_first ≡ first
    pub rest_is : rest'
        ≡ vector_plus ring rest (vector_scale ring (term_poly ring (ring.neg factor) mono) (member_at s j))
    pub quotients_are : qs' ≡ plus_term ring qs (record { mono = mono; comp = j + 1 }) factor

  -- The same of the rest alone, where no quotients are kept.
  pub record IsTaken (s : WithLeads F) (j : ℕ) (t : Term) (rest rest' : Vector F) : Type 0 where
    pub mono : Monomial
    pub is_mono : IsMonomial mono
    pub is_lead : times mono (lead_at s j) ≡ t
    pub first : F
    pub rest_first : IsGreatestTerm cmp rest t first
    pub member_first : F
    pub member_lead : IsGreatestTerm cmp (member_at s j) (lead_at s j) member_first
    pub factor : F
    pub factor_value : ring.IsValue factor
    pub factor_is : ring.mul factor member_first ≡ first
    pub rest_is : rest'
        ≡ vector_plus ring rest (vector_scale ring (term_poly ring (ring.neg factor) mono) (member_at s j))

  -- The lead of the rest goes to the remainder.
  pub record IsMoved (t : Term) (rest out rest' out' : Vector F) : Type 0 where
    pub first : F
    pub rest_first : IsGreatestTerm cmp rest t first
    pub rest_is : rest' ≡ plus_term ring rest t (ring.neg first)
    pub out_is : out' ≡ plus_term ring out t first

  -- not above the lead of v, and of its degree
  abbrev pub IsUnder : Vector F → Term → Type 0
  IsUnder v b =
      ((t : Term) (c : F) → IsGreatestTerm cmp v t c → cmp b t ≢ Greater)
      × ((d : ℕ) → HasDegree M d v → degree_of M b ≡ d)

  -- The division of v: what is left of it, the quotients and the remainder so far.
  pub record IsUnderway (s : WithLeads F) (v rest qs out : Vector F) : Type 0 where
    pub rest_vector : IsIn M rest
    pub out_vector : IsIn M out
    pub qs_vector : IsVector ring (length s.members) qs
    pub sum : (b : Term) → coefficient_at ring v b
        ≡ ring.add (coefficient_at ring (combination ring width qs s.members) b)
        (ring.add (coefficient_at ring rest b) (coefficient_at ring out b))
    pub rest_under : All (λ a. IsUnder v a.0) (terms rest)
    pub out_under : All (λ a. IsUnder v a.0) (terms out)
    pub qs_under : All (λ a. IsUnder v (lead_times s a.0)) (terms qs)
    pub free : All (λ u. All (λ a. ¬ (TermDivides u a.0)) (terms out)) s.leads
    pub zero : v ≡ zero_vector ring width
        → (rest ≡ zero_vector ring width) × (qs ≡ zero_vector ring (length s.members)) × (out ≡ zero_vector ring width)

  -- how many terms of a degree no higher are below t
  abbrev pub height : Term → ℕ
  height t = tally (λ s. is_lt (cmp s t)) (terms_up_to width (degree_of M t))

  -- the greatest height of a term, and one more; 0 for no term. Each step of a division makes it smaller
  abbrev pub peak : List (Term × F) → ℕ
  peak [] = 0
  peak (x ∷ xs) = max (height x.0 + 1) (peak xs)
