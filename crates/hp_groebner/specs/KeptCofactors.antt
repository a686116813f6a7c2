-- The cofactors that are kept while those of more leads are seen.
use Rattle.std.specs.Prelude.{◌≡◌, ◌⊎◌, ℕ, ◌<◌, Bool, true, ◌&&◌, nat_le, not, filter, List, [], ◌∷◌, ◌++◌, Contains}
use Rattle.hp_mono.specs.declared.term.Term.{Term}
use Rattle.hp_mono.specs.Monomials.{Monomial, Divides, IsMonomial}
use Rattle.hp_groebner.specs.PairQueues.{IsCompanion, nth}

-- whether no exponent of a is above that of b: a divides b
abbrev pub divides : Monomial → Monomial → Bool
divides [] b = true
divides (x ∷ a) [] = true
divides (x ∷ a) (y ∷ b) = nat_le x y && divides a b

-- a listed monomial divides q
abbrev pub IsCovered : List (Monomial × ℕ) → Monomial → Type 0
IsCovered xs q = (x : Monomial × ℕ) × Contains xs x × Divides x.0 q

-- those that q does not divide
abbrev pub without_multiples : Monomial → List (Monomial × ℕ) → List (Monomial × ℕ)
without_multiples q xs = filter (λ x. not (divides q x.0)) xs

-- q comes in with its place where no listed monomial divides it, and those that it divides go out.
abbrev pub IsKeptWith : List (Monomial × ℕ) → Monomial → ℕ → List (Monomial × ℕ) → Type 0
IsKeptWith xs q j ys =
    (IsCovered xs q × (ys ≡ xs)) ⊎ (¬ (IsCovered xs q) × (ys ≡ without_multiples q xs ++ (q, j) ∷ []))

-- the monomials of the new lead and of its companions among the first n leads have an exponent for each variable
abbrev pub AreMonomials : List Term → Term → ℕ → Type 0
AreMonomials leads t n =
    (j : ℕ) → IsCompanion leads t j → j < n → IsMonomial t.mono × IsMonomial (nth leads j).mono
