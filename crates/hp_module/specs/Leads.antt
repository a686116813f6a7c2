-- Greatest terms, the leads of a module, and its reduced Gröbner basis.
use Rattle.std.specs.Prelude.{◌≡◌, ◌≢◌, ◌↔◌, ℕ, ◌-◌, ◌<◌, ◌≤◌, List, [], length, All, Any, Contains, Some, slice_get, slice_index_or}
use Rattle.std.specs.declared.cmp.Ordering.{Ordering}
use Rattle.std.specs.declared.cmp.Ordering.TheVariants.{Less}
use Rattle.std.specs.Ordering.{nat_cmp, ordering_then}
use Rattle.hp_algebra.specs.Ring.{RingOf}
use Rattle.hp_mono.specs.declared.term.Term.{Term}
use Rattle.hp_mono.specs.Monomials.{degree}
use Rattle.hp_mono.specs.Monomials as mono
use Rattle.hp_mono.specs.TermOrders.{TermDivides, times}
use Rattle.hp_module.specs.Vectors.{Vector, IsGenerated}
use Rattle.hp_module.specs.FreeModules.{FreeModule, IsIn, HasDegree, degree_of, terms}

-- t with the coefficient c is the greatest term of the vector
pub record IsGreatestTerm {F : Type 0} (cmp : Term → Term → Ordering) (v : Vector F) (t : Term) (c : F) : Type 0 where
  pub occurs : Contains (terms v) (t, c)
  pub greatest : All (λ s. cmp t s.0 ≢ Less) (terms v)

module _ {F : Type 0} (cmp : Term → Term → Ordering) (M : Vector F → Type 0) where
  -- a lead is the greatest term of a member; zero has no term
  abbrev pub IsLead : Term → Type 0
  IsLead t = (v : Vector F) × (c : F) × M v × IsGreatestTerm cmp v t c

  -- a lead that no other lead divides
  pub record IsLeastLead (t : Term) : Type 0 where
    pub lead : IsLead t
    pub least : (s : Term) → IsLead s → TermDivides s t → s ≡ t

  -- The list has the least leads of degree at most d, each once.
  pub record AreLeastLeadsUpTo (d : ℕ) (ts : List Term) : Type 0 where
    pub each : (t : Term) → Contains ts t ↔ (IsLeastLead t × (degree t.mono ≤ d))
    pub once : (i j : ℕ) (t : Term) → slice_get ts i ≡ Some t → slice_get ts j ≡ Some t → i ≡ j

-- The reduced Gröbner basis of a set M of vectors, listed by degree, then by lead from the greatest.
pub record IsReducedBasis {F : Type 0} (ring : RingOf F) (cmp : Term → Term → Ordering) (M : Vector F → Type 0)
    (G : List (Vector F)) : Type 0 where
  pub members : All M G
  -- each has coefficient 1 at its greatest term, which is a least lead
  pub monic : All (λ g. (t : Term) × IsGreatestTerm cmp g t ring.one × IsLeastLead cmp M t) G
  -- each least lead is the greatest term of one of them, and of only one
  pub complete : (t : Term) → IsLeastLead cmp M t → Any (λ g. IsGreatestTerm cmp g t ring.one) G
  pub only_one : (i j : ℕ) (g h : Vector F) (t : Term) (c d : F) → slice_get G i ≡ Some g → slice_get G j ≡ Some h
      → IsGreatestTerm cmp g t c → IsGreatestTerm cmp h t d → i ≡ j
  -- no other term of a member is a multiple of a lead
  pub tails : (g : Vector F) (t s : Term) (c d : F) → Contains G g → IsGreatestTerm cmp g t c
      → Contains (terms g) (s, d)
      → s ≢ t → (u : Term) → IsLead cmp M u → ¬ (TermDivides u s)
  pub in_order : (i j : ℕ) (g h : Vector F) (t s : Term) (c d : F) → slice_get G i ≡ Some g → slice_get G j ≡ Some h
      → IsGreatestTerm cmp g t c → IsGreatestTerm cmp h s d → i < j
      → ordering_then (nat_cmp (degree t.mono) (degree s.mono)) (cmp s t) ≡ Less

-- Vectors with their leads, one for each.
pub record WithLeads (F : Type 0) : Type 0 where
  pub members : List (Vector F)
  pub leads : List Term

abbrev pub no_term : Term
no_term = record { mono = mono.one; comp = 0 }

module _ {F : Type 0} where
  -- member i and its lead, counted from 0
  abbrev pub member_at : WithLeads F → ℕ → Vector F
  member_at s i = slice_index_or s.members i []

  abbrev pub lead_at : WithLeads F → ℕ → Term
  lead_at s i = slice_index_or s.leads i no_term

  -- A term of the quotients stands for a monomial times the member of its component. Its lead is this.
  abbrev pub lead_times : WithLeads F → Term → Term
  lead_times s a = times a.mono (lead_at s (a.comp - 1))

-- Vectors of a free module, each homogeneous, with its greatest term as its lead.
pub record AreLed {F : Type 0} (M : FreeModule F) (s : WithLeads F) : Type 0 where
  pub vectors : All (IsIn M) s.members
  pub same_length : length s.leads ≡ length s.members
  pub led : (i : ℕ) → i < length s.members → (c : F) × IsGreatestTerm M.cmp (member_at s i) (lead_at s i) c
  pub homogeneous : (i : ℕ) → i < length s.members → HasDegree M (degree_of M (lead_at s i)) (member_at s i)

-- The vectors are a Gröbner basis of the submodule that they generate: the greatest term of each vector of it is a
-- multiple of one of their leads.
abbrev pub IsGroebner : {F : Type 0} → FreeModule F → WithLeads F → Type 0
IsGroebner {F} M s = (v : Vector F) (t : Term) (c : F) → IsGenerated M.ring M.width s.members v → IsGreatestTerm M.cmp v t c
    → (j : ℕ) × (j < length s.members) × TermDivides (lead_at s j) t
