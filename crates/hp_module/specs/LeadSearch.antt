-- The greatest of a list of terms.
use Rattle.std.specs.Prelude.{◌≡◌, ◌≢◌, ℕ, List, [], map, All, Contains, Option, MatchOption}
use Rattle.std.specs.declared.cmp.Ordering.{Ordering}
use Rattle.std.specs.declared.cmp.Ordering.TheVariants.{Less}
use Rattle.hp_mono.specs.declared.term.Term.{Term}
use Rattle.hp_poly.specs.Polynomials.{Poly}

-- the terms of a polynomial in component k
abbrev pub component_terms : {F : Type 0} → ℕ → Poly F → List (Term × F)
component_terms k p = map (λ t. (record { mono = t.0; comp = k }, t.1)) p

-- a term of the list with no greater one in it, and none exactly where there is no term
abbrev pub IsGreatestOf : {F : Type 0} → (Term → Term → Ordering) → List (Term × F) → Option (Term × F) → Type 0
IsGreatestOf cmp xs lead = MatchOption lead (xs ≡ []) (λ l. Contains xs l × All (λ s. cmp l.0 s.0 ≢ Less) xs)
