-- The terms of a vector by its entries.
use Rattle.std.specs.Prelude.{◌≡◌, ℕ, zero, suc, ◌+◌, ◌-◌, ◌<◌, List, [], ◌∷◌, ◌++◌, length, drop, All, Contains}
use Rattle.std.proofs.Common.{get_or}
use Rattle.std.proofs.lemmas.List.Elements.{All-append, All-cons, All-head, All-map, All-nil, All-tail}
use mathlib.Core.Path.{refl, sym, ap, ◌∙◌, subst}
use native.Mathlib.Omega.{arith}
use Rattle.hp_mono.specs.declared.term.Term.{Term}
use Rattle.hp_mono.specs.Monomials.{Monomial, degree}
use Rattle.hp_poly.specs.Polynomials.{Poly}
use Rattle.hp_module.specs.Vectors.{Vector}
use Rattle.hp_module.specs.FreeModules.{IsGraded, term_degree, terms_from}
use Rattle.hp_module.specs.LeadSearch.{component_terms}

module _ {F : Type 0} where
  front_all : (P : Term × F → Type 0) (k : ℕ) (p : Poly F) (xs : List (Term × F)) → All P (component_terms k p ++ xs)
      → All (λ t. P (record { mono = t.0; comp = k }, t.1)) p × All P xs
  front_all P k [] xs h = (All-nil (λ t. P (record { mono = t.0; comp = k }, t.1)), h)
  front_all P k (t ∷ p) xs h =
      let Q : Monomial × F → Type 0 = λ t. P (record { mono = t.0; comp = k }, t.1) in
      let first : Term × F = (record { mono = t.0; comp = k }, t.1) in
      let rest = front_all P k p xs (All-tail P first (component_terms k p ++ xs) h) in
      (All-cons Q t p (All-head P first (component_terms k p ++ xs) h) rest.0, rest.1)

  -- what holds of all terms of each entry holds of all terms, and the other way round
  pub terms_all : (P : Term × F → Type 0) (k : ℕ) (v : Vector F)
      → ((j : ℕ) → j < length v → All (λ t. P (record { mono = t.0; comp = k + j }, t.1)) (get_or v j []))
      → All P (terms_from k v)
  terms_all P k [] h = All-nil P
  terms_all P k (p ∷ v) h =
      let same : k + 0 ≡ k = omega arith in
      let here = subst (λ n. All (λ t. P (record { mono = t.0; comp = n }, t.1)) p) same (h 0 (omega arith)) in
      All-append P _ _ (All-map P (λ t. (record { mono = t.0; comp = k }, t.1)) p here) (terms_all P (k + 1) v (λ j l.
      let next : k + suc j ≡ k + 1 + j = omega arith in
      subst (λ n. All (λ t. P (record { mono = t.0; comp = n }, t.1)) (get_or v j [])) next (h (suc j) (omega arith))))

  pub terms_each : (P : Term × F → Type 0) (k : ℕ) (v : Vector F) → All P (terms_from k v) → (j : ℕ) → j < length v
      → All (λ t. P (record { mono = t.0; comp = k + j }, t.1)) (get_or v j [])
  terms_each P k [] h j l = absurd (omega arith)
  terms_each P k (p ∷ v) h zero l =
      let same : k ≡ k + 0 = omega arith in
      subst (λ n. All (λ t. P (record { mono = t.0; comp = n }, t.1)) p) same (front_all P k p (terms_from (k + 1) v) h).0
  terms_each P k (p ∷ v) h (suc j) l =
      let next : k + 1 + j ≡ k + suc j = omega arith in
      subst (λ n. All (λ t. P (record { mono = t.0; comp = n }, t.1)) (get_or v j [])) next
      (terms_each P (k + 1) v (front_all P k p (terms_from (k + 1) v) h).1 j (omega arith))

  -- the terms from entry k on
  pub terms_drop : (v : Vector F) {x ts : Poly F} (k m : ℕ) → k + 1 ≡ m → drop k v ≡ x ∷ drop m v → ts ≡ x
      → terms_from (k + 1) (drop k v) ≡ component_terms (k + 1) ts ++ terms_from (m + 1) (drop m v)
  terms_drop v {x} {ts} k m n e f =
      ap (terms_from (k + 1)) e
      ∙ (λ i. component_terms (k + 1) (sym f i) ++ terms_from (n i + 1) (drop m v))

  pub terms_none : (k : ℕ) (v : Vector F) → terms_from k v ≡ [] → (j : ℕ) → j < length v → get_or v j [] ≡ []
  terms_none k [] e j l = absurd (omega arith)
  terms_none k ([] ∷ v) e zero l = refl
  terms_none k ([] ∷ v) e (suc j) l = terms_none (k + 1) v e j (omega arith)
  terms_none k ((t ∷ p) ∷ v) e j l = absurd (omega (arith, ap length e))

  pub first_found : {v w : Vector F} {x : Poly F} {t : Monomial × F} {p : Poly F} (k : ℕ) → v ≡ x ∷ w → x ≡ t ∷ p
      → Contains (terms_from k v) (record { mono = t.0; comp = k }, t.1)
  first_found {v} {w} {x} {t} {p} k e f =
      subst (λ u. Contains (terms_from k u) (record { mono = t.0; comp = k }, t.1)) (sym (e ∙ ap (λ y. y ∷ w) f))
      (0, omega arith, refl)

  pub graded_each : (shifts : List ℕ) (d : ℕ) (v : Vector F) → IsGraded shifts d v → (j : ℕ) → j < length v
      → All (λ t. degree t.0 + get_or shifts j 0 ≡ d) (get_or v j [])
  graded_each shifts d v h j l =
      let same : 1 + j - 1 ≡ j = omega arith in
      subst (λ n. All (λ (t : Monomial × F). degree t.0 + get_or shifts n 0 ≡ d) (get_or v j [])) same
      (terms_each (λ t. term_degree shifts t.0 ≡ d) 1 v h j l)

  pub graded_all : (shifts : List ℕ) (d : ℕ) (v : Vector F)
      → ((j : ℕ) → j < length v → All (λ t. degree t.0 + get_or shifts j 0 ≡ d) (get_or v j [])) → IsGraded shifts d v
  graded_all shifts d v h =
      terms_all (λ t. term_degree shifts t.0 ≡ d) 1 v (λ j l.
      let same : j ≡ 1 + j - 1 = omega arith in
      subst (λ n. All (λ (t : Monomial × F). degree t.0 + get_or shifts n 0 ≡ d) (get_or v j [])) same (h j l))
