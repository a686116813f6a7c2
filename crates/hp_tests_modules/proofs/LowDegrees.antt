-- The degree of a vector by shifts 0 is that of its lead.
use Rattle.std.proofs.Common.{◌≡◌, ℕ, zero, suc, ◌-◌, ◌≤◌, List, [], ◌∷◌, slice_index_or, ap, ◌∙◌, arith}
use Rattle.std.proofs.lemmas.List.Elements.{All-contains}
use Rattle.hp_mono.specs.declared.term.Term.{Term}
use Rattle.hp_mono.specs.Monomials.{degree, max_degree}
use Rattle.hp_module.specs.FreeModules.{IsGraded, shift_of, term_degree, terms}
use Rattle.hp_module.specs.Leads.{IsGreatestTerm}
use Rattle.hp_module.specs.Vectors.{Vector}
use Rattle.std.specs.declared.cmp.Ordering.{Ordering}
use mathlib.Core.Path.{refl}

no-shift : (c : ℕ) → shift_of (0 ∷ 0 ∷ []) c ≡ 0
no-shift c = at (c - 1)
  where
    none : List ℕ
    none = 0 ∷ 0 ∷ []

    at : (n : ℕ) → slice_index_or none n 0 ≡ 0
    at zero = refl
    at (suc zero) = refl
    at (suc (suc n)) = refl

pub low-degree : {F : Type 0} (cmp : Term → Term → Ordering) (shifts : List ℕ) (v : Vector F) (t : Term) (c : F) (d : ℕ)
    → shifts ≡ 0 ∷ 0 ∷ [] → IsGreatestTerm cmp v t c → degree t.mono ≤ 100 → IsGraded shifts d v → d ≤ max_degree
low-degree {F} cmp shifts v t c d zeros lead low graded =
    let here : term_degree shifts t ≡ d = All-contains (λ (s : Term × F). term_degree shifts s.0 ≡ d) (terms v) (t, c) graded lead.occurs in
    let none : shift_of shifts t.comp ≡ 0 = ap (λ s. shift_of s t.comp) zeros ∙ no-shift t.comp in
    omega (arith, here, none, low)
