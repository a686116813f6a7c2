-- Pairs of leads that cover all pairs of leads of one component.
use Rattle.std.specs.Prelude.{ℕ, ◌<◌, List, All, Contains}
use Rattle.hp_mono.specs.declared.term.Term.{Term}
use Rattle.hp_groebner.specs.PairQueues.{IsCover, IsPair}

-- The pairs are of leads before place n, the earlier one first, and each pair of these is covered by one of them with
-- the same later lead: by one whose cofactor divides its own. Leads are counted from 0.
pub record AreCoveringPairs (leads : List Term) (n : ℕ) (pairs : List (ℕ × ℕ)) : Type 0 where
  pub within : All (λ x. (x.0 < x.1) × (x.1 < n)) pairs
  pub covering : (j i : ℕ) → i < n → IsPair leads j i → (k : ℕ) × Contains pairs (k, i) × IsCover leads j i k
