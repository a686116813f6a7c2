-- The pairs of a new lead that are listed by their degrees.
use Rattle.std.specs.Prelude.{◌≡◌, ℕ, ◌<◌, ◌≤◌, List, [], ◌++◌, length, All, Contains, slice_index_or}
use Rattle.hp_mono.specs.declared.term.Term.{Term}
use Rattle.hp_mono.specs.Monomials.{Monomial, one}
use Rattle.hp_module.specs.CriticalPairs.{lcm_degree}
use Rattle.hp_groebner.specs.PairQueues.{IsCompanion, nth}

-- the pairs of a degree
abbrev pub pairs_of : List (List (ℕ × ℕ)) → ℕ → List (ℕ × ℕ)
pairs_of due e = slice_index_or due e []

-- the place of the companion whose cofactor is at place h
abbrev pub place_at : List (Monomial × ℕ) → ℕ → ℕ
place_at xs h = (slice_index_or xs h (one, 0)).1

module _ (leads : List Term) (t : Term) where
  -- the degree of the pair of the new lead with lead j
  abbrev pub new_degree : ℕ → ℕ
  new_degree j = lcm_degree (nth leads j, t)

  -- a pair of the new lead, which comes after the others, of this degree
  abbrev pub IsNewPair : ℕ → ℕ × ℕ → Type 0
  IsNewPair e u = IsCompanion leads t u.0 × (u.1 ≡ length leads) × (new_degree u.0 ≡ e)

  -- The pairs with the companions at the first k places are listed where their degree is within the limit.
  pub record AreAdded (limit : ℕ) (xs : List (Monomial × ℕ)) (k : ℕ) (due due' : List (List (ℕ × ℕ))) : Type 0 where
    pub long : length due' ≡ length due
    pub more : (e : ℕ) → (us : List (ℕ × ℕ)) × (pairs_of due' e ≡ pairs_of due e ++ us) × All (IsNewPair e) us
    pub listed : (h : ℕ) → h < k → new_degree (place_at xs h) ≤ limit
        → Contains (pairs_of due' (new_degree (place_at xs h))) (place_at xs h, length leads)
