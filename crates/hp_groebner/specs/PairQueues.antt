-- The critical pairs of a list of leads that are to be divided, by the degree of their lcm.
use Rattle.std.specs.Prelude.{◌≡◌, ◌↔◌, ℕ, ◌+◌, ◌<◌, ◌≤◌, Bool, List, [], ◌∷◌, ◌++◌, length, All, Contains, IsTrue, Some, slice_get, slice_index_or}
use Rattle.hp_mono.specs.declared.term.Term.{Term}
use Rattle.hp_mono.specs.Monomials.{Monomial, Divides, cofactor}
use Rattle.hp_module.specs.Leads.{no_term}
use Rattle.hp_module.specs.CriticalPairs.{critical_pairs, lcm_degree}
use Rattle.hp_groebner.specs.declared.limits.Limits.{Limits}

-- lead i, counted from 0
abbrev pub nth : List Term → ℕ → Term
nth leads i = slice_index_or leads i no_term

-- Two leads of one component, by their places.
pub record IsPair (leads : List Term) (j i : ℕ) : Type 0 where
  pub earlier : j < i
  pub within : i < length leads
  pub same_component : (nth leads j).comp ≡ (nth leads i).comp

abbrev pub pair_degree : List Term → ℕ → ℕ → ℕ
pair_degree leads j i = lcm_degree (nth leads j, nth leads i)

-- the lcm of some pair has a degree above the limit
abbrev pub HasHighPair : Limits → List Term → Type 0
HasHighPair limits leads = (j : ℕ) × (i : ℕ) × IsPair leads j i × (limits.degree < pair_degree leads j i)

-- A pair of k and i covers that of j and i: its cofactor at i divides that of the other.
pub record IsCover (leads : List Term) (j i k : ℕ) : Type 0 where
  pub pair : IsPair leads k i
  pub divides : Divides (cofactor (nth leads i).mono (nth leads k).mono) (cofactor (nth leads i).mono (nth leads j).mono)

-- The leads in the order in which they were found, the pairs that are to be divided by the degrees of their lcms, how
-- many critical pairs the leads have, and whether one is above the limit.
pub record Queue : Type 0 where
  pub leads : List Term
  pub due : List (List (ℕ × ℕ))
  pub pairs : ℕ
  pub high : Bool

-- the pairs of a degree
abbrev pub bucket : Queue → ℕ → List (ℕ × ℕ)
bucket q e = slice_index_or q.due e []

-- What is listed are pairs of the degree, and each pair up to the limit is covered by one that is listed.
pub record IsQueue (limits : Limits) (q : Queue) : Type 0 where
  pub long : length q.due ≡ limits.degree + 1
  pub counted : q.pairs ≡ length (critical_pairs q.leads)
  pub high : IsTrue q.high ↔ HasHighPair limits q.leads
  pub listed : (e : ℕ) → All (λ u. IsPair q.leads u.0 u.1 × (pair_degree q.leads u.0 u.1 ≡ e)) (bucket q e)
  pub covered : (j i : ℕ) → IsPair q.leads j i → pair_degree q.leads j i ≤ limits.degree
      → (k : ℕ) × IsCover q.leads j i k × Contains (bucket q (pair_degree q.leads k i)) (k, i)

-- One lead more. Only pairs of the last place are new.
pub record IsLonger (q : Queue) (t : Term) (q' : Queue) : Type 0 where
  pub leads : q'.leads ≡ q.leads ++ t ∷ []
  pub buckets : (e : ℕ) → (us : List (ℕ × ℕ)) × (bucket q' e ≡ bucket q e ++ us) × All (λ u. u.1 ≡ length q.leads) us

-- lead j has the component of t
pub record IsCompanion (leads : List Term) (t : Term) (j : ℕ) : Type 0 where
  pub within : j < length leads
  pub same_component : (nth leads j).comp ≡ t.comp

-- The minimal ones among the cofactors of a new lead with its companions, each with the place of the companion.
pub record AreMinimalCofactors (leads : List Term) (t : Term) (xs : List (Monomial × ℕ)) : Type 0 where
  pub each : All (λ x. IsCompanion leads t x.1 × (x.0 ≡ cofactor t.mono (nth leads x.1).mono)) xs
  pub covered : (j : ℕ) → IsCompanion leads t j
      → (x : Monomial × ℕ) × Contains xs x × Divides x.0 (cofactor t.mono (nth leads j).mono)
  pub minimal : (i k : ℕ) (x y : Monomial × ℕ) → slice_get xs i ≡ Some x → slice_get xs k ≡ Some y → Divides x.0 y.0
      → i ≡ k
