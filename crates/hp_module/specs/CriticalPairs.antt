-- The critical pairs of a list of leads.
use Rattle.std.specs.Prelude.{ℕ, ◌==◌, List, [], ◌∷◌, ◌++◌, map, filter}
use Rattle.hp_algebra.specs.Ring.{RingOf}
use Rattle.hp_mono.specs.declared.term.Term.{Term}
use Rattle.hp_mono.specs.Monomials as mono
use Rattle.hp_mono.specs.Monomials.{Monomial, cofactor, degree}
use Rattle.hp_poly.specs.Polynomials.{term_poly}
use Rattle.hp_module.specs.Vectors.{Vector, vector_plus, vector_scale}
use Rattle.hp_module.specs.Leads.{WithLeads, lead_at, member_at}

-- the unordered pairs of places with one component
abbrev pub critical_pairs : List Term → List (Term × Term)
critical_pairs [] = []
critical_pairs (t ∷ ts) = map (λ s. (t, s)) (filter (λ s. s.comp == t.comp) ts) ++ critical_pairs ts

abbrev pub lcm_degree : Term × Term → ℕ
lcm_degree p = degree (mono.lcm p.0.mono p.1.mono)

module _ {F : Type 0} (ring : RingOf F) (s : WithLeads F) where
  -- what the lcm of the leads of members i and j has more than the lead of i
  abbrev pub pair_cofactor : ℕ → ℕ → Monomial
  pair_cofactor i j = cofactor (lead_at s i).mono (lead_at s j).mono

  -- The vector of the pair of members j and i, counted from 0: a times member i minus b times member j, each multiplied
  -- to the lcm of the leads. For monic members a and b are 1.
  abbrev pub pair_vector : ℕ → ℕ → F → F → Vector F
  pair_vector j i a b =
      vector_plus ring (vector_scale ring (term_poly ring a (pair_cofactor i j)) (member_at s i))
      (vector_scale ring (term_poly ring (ring.neg b) (pair_cofactor j i)) (member_at s j))
