-- The terms of polynomials in the first variables.
use Rattle.std.specs.Prelude.{ℕ, ◌==◌, Bool, drop, filter, map}
use Rattle.std.specs.List.{list_all}
use Rattle.hp_algebra.specs.Ring.{RingOf}
use Rattle.hp_mono.specs.Monomials.{Monomial}
use Rattle.hp_poly.specs.Polynomials.{Poly, poly_neg}
use Rattle.hp_module.specs.Vectors.{Vector}

-- whether only x_1, .., x_l occur
abbrev pub in_first : ℕ → Monomial → Bool
in_first l m = list_all (λ e. e == 0) (drop l m)

-- the terms in which only they do
abbrev pub first_terms : {F : Type 0} → ℕ → Poly F → Poly F
first_terms l p = filter (λ t. in_first l t.0) p

-- the negatives of these terms of each entry
abbrev pub negated_firsts : {F : Type 0} → RingOf F → ℕ → Vector F → Vector F
negated_firsts ring l qs = map (λ q. poly_neg ring (first_terms l q)) qs
