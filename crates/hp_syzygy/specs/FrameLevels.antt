-- The levels of a frame: a Gröbner basis with its leads, the pairs whose relations are the next level, and what these are.
use Rattle.std.specs.Prelude.{◌≡◌, ℕ, suc, ◌+◌, ◌<◌, ◌≤◌, List, [], map, length, All, AllPairs, Contains, slice_index_or}
use Rattle.std.specs.declared.cmp.Ordering.{Ordering}
use Rattle.hp_algebra.specs.Ring.{RingOf}
use Rattle.hp_linear.specs.Matrices.{Matrix}
use Rattle.hp_complex.specs.Complexes.{IsExactAt}
use Rattle.hp_mono.specs.declared.term.Term.{Term}
use Rattle.hp_mono.specs.Monomials.{cofactor, degree}
use Rattle.hp_mono.specs.TermOrders.{TermDivides}
use Rattle.hp_poly.specs.Polynomials.{Poly, poly_ring}
use Rattle.hp_module.specs.Vectors.{Vector, combination, zero_vector}
use Rattle.hp_module.specs.FreeModules.{FreeModule, IsFreeModule}
use Rattle.hp_module.specs.FallingTerms.{free_module}
use Rattle.hp_module.specs.Leads.{AreLed, IsGreatestTerm, IsGroebner, WithLeads, member_at, no_term}
use Rattle.hp_module.specs.Derivations.{IsVectorInVariables}
use Rattle.hp_module.proofs.GroebnerLaw.{IsPairRelation}
use Rattle.hp_syzygy.specs.ChainOrders.{Chain, IsChain, chain_order, full, rank_of}

-- the greatest degree of a lead of the basis
abbrev pub most_lead : ℕ
most_lead = 240

-- Vectors with their leads, in a free module whose components stand for terms. `left` variables are left in the leads.
pub record Level (F : Type 0) : Type 0 where
  pub chain : Chain
  pub left : ℕ
  pub degrees : List ℕ
  pub members : List (Vector F)
  pub leads : List Term

-- the exponent at a place counted from 0
abbrev pub exponent_at : Term → ℕ → ℕ
exponent_at t p = slice_index_or t.mono p 0

module _ {F : Type 0} where
  abbrev pub level_width : Level F → ℕ
  level_width v = length v.chain.tops

  abbrev pub with_leads : Level F → WithLeads F
  with_leads v = record { members = v.members; leads = v.leads }

  -- the lead of a member, counted from 0
  abbrev pub level_lead : Level F → ℕ → Term
  level_lead v i = slice_index_or v.leads i no_term

  -- the term of the first module that it stands for
  abbrev pub full_lead : Level F → ℕ → Term
  full_lead v i = full v.chain (level_lead v i)

  abbrev pub level_matrix : Level F → Matrix (Poly F)
  level_matrix v = record { cols = level_width v; rows = v.members }

  -- the degrees of the members
  abbrev pub member_degrees : Level F → List ℕ
  member_degrees v = map (λ t. degree (full v.chain t).mono) v.leads

module _ {F : Type 0} (ring : RingOf F) (inverse : F → F) where
  -- the free module of a level
  abbrev pub level_module : Level F → FreeModule F
  level_module v = free_module ring inverse (level_width v) v.degrees (chain_order v.chain)

  -- A level: a Gröbner basis of monic homogeneous vectors in the first variables. No lead divides another; the leads have
  -- only the variables that are left, and stand for terms whose exponents are at most `most_lead`.
  pub record IsLevel (v : Level F) : Type 0 where
    pub module_laws : IsFreeModule (level_module v)
    pub chain : IsChain v.chain
    pub degrees : v.degrees ≡ map (λ t. degree t.mono) v.chain.tops
    pub led : AreLed (level_module v) (with_leads v)
    pub monic : (i : ℕ) → i < length v.members → IsGreatestTerm (chain_order v.chain) (member_at (with_leads v) i) (level_lead v i) ring.one
    pub groebner : IsGroebner (level_module v) (with_leads v)
    pub variables : All (IsVectorInVariables ring v.chain.width (level_width v)) v.members
    pub apart : (i j : ℕ) → i < length v.members → j < length v.members → TermDivides (level_lead v i) (level_lead v j) → i ≡ j
    pub left : (i p : ℕ) → i < length v.members → v.left ≤ p → exponent_at (level_lead v i) p ≡ 0
    pub low : (i p : ℕ) → i < length v.members → exponent_at (full_lead v i) p ≤ most_lead

-- a term for each vector: where the vector has a greatest term it is that one
pub record AreLeadsOf {F : Type 0} (cmp : Term → Term → Ordering) (vectors : List (Vector F)) (leads : List Term) : Type 0 where
  pub one_each : length leads ≡ length vectors
  pub greatest : (i : ℕ) (t : Term) (c : F) → i < length vectors → IsGreatestTerm cmp (slice_index_or vectors i []) t c
      → t ≡ slice_index_or leads i no_term

-- ---- the ranks of the members

module _ {F : Type 0} where
  -- Ranks that differ, and rise with those of the components in which the leads lie. For leads in one component they rise
  -- with the exponent of the last variable that is left.
  pub record AreRanks (v : Level F) (ranks : List ℕ) : Type 0 where
    pub one_each : length ranks ≡ length v.leads
    pub apart : (i j : ℕ) → i < length v.leads → j < length v.leads → slice_index_or ranks i 0 ≡ slice_index_or ranks j 0 → i ≡ j
    pub by_component : (i j : ℕ) → i < length v.leads → j < length v.leads
        → rank_of v.chain (level_lead v i).comp < rank_of v.chain (level_lead v j).comp
        → slice_index_or ranks i 0 < slice_index_or ranks j 0
    pub rise : (i j p : ℕ) → i < length v.leads → j < length v.leads → (level_lead v i).comp ≡ (level_lead v j).comp
        → slice_index_or ranks i 0 < slice_index_or ranks j 0
        → suc p ≡ v.left → exponent_at (level_lead v i) p ≤ exponent_at (level_lead v j) p

-- ---- pairs

-- the lead of the relation of the pair of leads j and i, with i the later one: what the lcm has more than lead i
abbrev pub pair_lead : List Term → ℕ → ℕ → Term
pair_lead leads i j = record { mono = cofactor (slice_index_or leads i no_term).mono (slice_index_or leads j no_term).mono; comp = suc i }

-- Leads j before i of one component, in the order of the ranks.
pub record IsPair (leads : List Term) (ranks : List ℕ) (j i : ℕ) : Type 0 where
  pub earlier : j < length leads
  pub later : i < length leads
  pub same_comp : (slice_index_or leads j no_term).comp ≡ (slice_index_or leads i no_term).comp
  pub before : slice_index_or ranks j 0 < slice_index_or ranks i 0

-- no term of two divides the other
abbrev pub AreApart : Term × ℕ → Term × ℕ → Type 0
AreApart s t = ¬ (TermDivides s.0 t.0) × ¬ (TermDivides t.0 s.0)

-- The pairs that are not covered: for each pair one with the same later lead is listed whose relation has a lead that
-- divides that of the pair. A pair is listed by the lead of its relation and the place of the earlier lead.
pub record ArePairs (leads : List Term) (ranks : List ℕ) (pairs : List (Term × ℕ)) : Type 0 where
  pub each : All (λ q. (i : ℕ) × IsPair leads ranks q.1 i × (q.0 ≡ pair_lead leads i q.1)) pairs
  pub covered : (j i : ℕ) → IsPair leads ranks j i
      → (q : Term × ℕ) × Contains pairs q × TermDivides q.0 (pair_lead leads i j)
  pub apart : AllPairs AreApart pairs

-- The same for the pairs of lead i with those of the first m leads.
pub record ArePairsAt (leads : List Term) (ranks : List ℕ) (i m : ℕ) (pairs : List (Term × ℕ)) : Type 0 where
  pub each : All (λ q. IsPair leads ranks q.1 i × (q.0 ≡ pair_lead leads i q.1)) pairs
  pub covered : (j : ℕ) → j < m → IsPair leads ranks j i
      → (q : Term × ℕ) × Contains pairs q × TermDivides q.0 (pair_lead leads i j)
  pub apart : AllPairs AreApart pairs

module _ {F : Type 0} (ring : RingOf F) (inverse : F → F) where
  -- ---- relations

  -- The monic relation of a pair, in the first variables.
  pub record IsRelationOf {v : Level F} (is : IsLevel ring inverse v) (pair : Term × ℕ) (rel : Vector F) : Type 0 where
    pub variables : IsVectorInVariables ring v.chain.width (length v.members) rel
    pub zero : combination ring (level_width v) rel v.members ≡ zero_vector ring (level_width v)
    pub relation : IsPairRelation is.module_laws is.led (suc pair.1) pair.0.comp rel
    pub monic : relation.first ≡ ring.one

  -- The next level: its members generate the relations of those of this one. Where there are any they form a level, whose
  -- leads have lost a variable.
  pub record IsNextLevel (v w : Level F) : Type 0 where
    pub exact : IsExactAt (poly_ring ring) (level_matrix w) (level_matrix v)
    pub same_width : w.chain.width ≡ v.chain.width
    pub width : level_width w ≡ length v.members
    pub degrees : w.degrees ≡ member_degrees v
    pub level : 1 ≤ length w.members → IsLevel ring inverse w × (w.left + 1 ≡ v.left)
