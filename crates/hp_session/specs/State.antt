-- The state of a script once a field is chosen: the limits, and the arrangements by name.
use Rattle.std.specs.Prelude.{ℕ, nat_eq, Bool, if◌then◌else◌, List, [], ◌∷◌, Option, Some, None, is_none}
use Rattle.std.specs.Option.{unwrap_or}
use Rattle.std.specs.Cmp.Lexicographic.{pointwise}
use Rattle.hp_arr.specs.Arrangement.{Arrangement}
use Rattle.hp_groebner.specs.declared.limits.Limits.{Limits}
pub use Rattle.hp_groebner.specs.LimitRules.{AreLimits, most_pairs, most_degree}

-- the first limits
abbrev pub first_limits : Limits
first_limits = record { pairs = 100000; degree = 240 }

-- The limits, and the arrangements with their names in the order in which they were named.
pub record State (K : Type 0) : Type 0 where
  pub limits : Limits
  pub names : List (List ℕ × Arrangement K)

abbrev pub no_names : {K : Type 0} → Limits → State K
no_names limits = record { limits = limits; names = [] }

abbrev pub same_name : List ℕ → List ℕ → Bool
same_name = pointwise nat_eq

-- the arrangement that has the name, if there is one
abbrev pub lookup : {K : Type 0} → List (List ℕ × Arrangement K) → List ℕ → Option (Arrangement K)
lookup [] x = None
lookup (e ∷ es) x = if same_name e.0 x then Some e.1 else lookup es x

abbrev pub is_unknown : {K : Type 0} → State K → List ℕ → Bool
is_unknown state x = is_none (lookup state.names x)

-- the arrangement of a name; of a name that is not known, one without forms
abbrev pub named : {K : Type 0} → State K → List ℕ → Arrangement K
named state x = unwrap_or (lookup state.names x) (record { dim = 0; forms = [] })
