-- The limits of a Gröbner basis: where the least leads of a set of vectors pass them.
use Rattle.std.specs.Prelude.{◌≡◌, ◌≢◌, ◌⊎◌, ⊤, ℕ, ◌<◌, ◌≤◌, List, length, All, Some, slice_get}
use Rattle.std.specs.declared.cmp.Ordering.{Ordering}
use Rattle.hp_mono.specs.declared.term.Term.{Term}
use Rattle.hp_mono.specs.Monomials.{degree}
use Rattle.hp_module.specs.Vectors.{Vector}
use Rattle.hp_module.specs.Leads.{IsLeastLead}
use Rattle.hp_module.specs.CriticalPairs.{critical_pairs, lcm_degree}
use Rattle.hp_groebner.specs.declared.limits.Limits.{Limits}
use Rattle.hp_groebner.specs.declared.limits.Stop.{Stop}
use Rattle.hp_groebner.specs.declared.limits.Stop.TheVariants as stops

-- the greatest limits, and the greatest degree of a generator
abbrev pub most_pairs : ℕ
most_pairs = 1000000

abbrev pub most_degree : ℕ
most_degree = 240

abbrev pub most_generator_degree : ℕ
most_generator_degree = 20

-- the limits are within their ranges
pub record AreLimits (limits : Limits) : Type 0 where
  pub pairs : limits.pairs ≤ most_pairs
  pub degree : limits.degree ≤ most_degree

module _ {F : Type 0} (cmp : Term → Term → Ordering) (M : Vector F → Type 0) where
  -- a least lead of degree at most d
  abbrev pub IsLeastLeadUpTo : ℕ → Term → Type 0
  IsLeastLeadUpTo d t = IsLeastLead cmp M t × (degree t.mono ≤ d)

  -- Some of the least leads of degree at most d, none twice.
  pub record AreDifferentLeastLeads (d : ℕ) (ts : List Term) : Type 0 where
    pub each : All (IsLeastLeadUpTo d) ts
    pub once : (i j : ℕ) (t : Term) → slice_get ts i ≡ Some t → slice_get ts j ≡ Some t → i ≡ j

  module _ (limits : Limits) where
    -- the least leads of degree at most d have more critical pairs than the limit: some of them have
    abbrev pub HasTooManyPairs : ℕ → Type 0
    HasTooManyPairs d = (ts : List Term) × AreDifferentLeastLeads d ts × (limits.pairs < length (critical_pairs ts))

    -- among the least leads of degree at most d is a critical pair whose lcm has a degree above the limit
    pub record HasTooHighPair (d : ℕ) : Type 0 where
      pub first : Term
      pub second : Term
      pub first_lead : IsLeastLeadUpTo d first
      pub second_lead : IsLeastLeadUpTo d second
      pub different : first ≢ second
      pub same_component : first.comp ≡ second.comp
      pub high : limits.degree < lcm_degree (first, second)

    -- a limit is passed at degree d
    abbrev pub IsPassed : ℕ → Type 0
    IsPassed d = HasTooManyPairs d ⊎ HasTooHighPair d

    -- d is the first degree at which a limit is passed
    abbrev pub IsFirstPassed : ℕ → Type 0
    IsFirstPassed d = IsPassed d × ((e : ℕ) → e < d → ¬ (IsPassed e))

    -- The limit rule: at the first degree at which a limit is passed, it stops for the pairs where they are too many, and
    -- else for the degree.
    abbrev pub StopsForPairs : Type 0
    StopsForPairs = (d : ℕ) × IsFirstPassed d × HasTooManyPairs d

    abbrev pub StopsForDegree : Type 0
    StopsForDegree = (d : ℕ) × IsFirstPassed d × ¬ (HasTooManyPairs d)

    -- there is no such degree
    abbrev pub NeverStops : Type 0
    NeverStops = (d : ℕ) → ¬ (IsPassed d)

    -- Each stop is that of the rule. Memory may be out at any time.
    abbrev pub IsStop : Stop → Type 0
    IsStop stops.Pairs = StopsForPairs
    IsStop stops.Degree = StopsForDegree
    IsStop stops.Memory = ⊤
