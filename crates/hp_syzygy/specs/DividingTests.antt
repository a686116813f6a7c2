-- Divisibility of terms as a test, and the terms that a list keeps.
use Rattle.std.specs.Prelude.{ℕ, ◌==◌, nat_le, Bool, true, cond, not, ◌&&◌, List, [], ◌∷◌, ◌++◌, filter}
use Rattle.std.specs.List.{list_any}
use Rattle.hp_mono.specs.declared.term.Term.{Term}
use Rattle.hp_mono.specs.Monomials.{Monomial}

-- whether each exponent is at most the other's
abbrev pub each_most : Monomial → Monomial → Bool
each_most [] n = true
each_most (x ∷ m) [] = true
each_most (x ∷ m) (y ∷ n) = nat_le x y && each_most m n

abbrev pub term_divides : Term → Term → Bool
term_divides s t = (s.comp == t.comp) && each_most s.mono t.mono

-- whether a term of the list divides t
abbrev pub some_divides : List (Term × ℕ) → Term → Bool
some_divides kept t = list_any (λ q. term_divides q.0 t) kept

-- The list with one candidate more: nothing where a term of the list divides it. Else what it divides goes, and it comes last.
abbrev pub keep_next : List (Term × ℕ) → Term → ℕ → List (Term × ℕ)
keep_next kept t j = cond (some_divides kept t) kept (filter (λ q. not (term_divides t q.0)) kept ++ (t, j) ∷ [])
