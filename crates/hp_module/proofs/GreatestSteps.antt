-- The search for the greatest term, from the last term on.
use Rattle.std.specs.Prelude.{◌≡◌, ◌≢◌, ◌↔◌, ℕ, List, [], ◌∷◌, true, false, IsTrue, IsNone, IfSome, MatchOption, length, All, Option, Some, None, ◌++◌, Contains}
use Rattle.std.specs.declared.cmp.Ordering.{Ordering}
use Rattle.std.specs.declared.cmp.Ordering.TheVariants.{Less, Equal, Greater}
use Rattle.std.specs.Ordering.{ordering_reverse}
use Rattle.std.proofs.lemmas.Bool.{false≢true}
use Rattle.std.proofs.lemmas.List.Elements.{All-append, All-cons, All-contains, All-nil, All-head, All-tail, Contains-append_cases, Contains-append_left, Contains-append_right}
use mathlib.Core.Logic.{inl, inr}
use mathlib.Core.Path.{refl, sym, ap, ◌∙◌, subst}
use native.Mathlib.Omega.{arith}
use Rattle.hp_mono.specs.declared.term.Term.{Term}
use Rattle.hp_mono.specs.TermOrders.{IsTermWithin, IsTermOrder}
use Rattle.hp_module.specs.Vectors.{Vector}
use Rattle.hp_module.specs.FreeModules.{terms}
use Rattle.hp_module.specs.Leads.{IsGreatestTerm}
use Rattle.hp_module.specs.LeadSearch.{IsGreatestOf}

not_less_itself : (width : ℕ) (cmp : Term → Term → Ordering) → IsTermOrder width cmp → (t : Term) → IsTermWithin width t
    → cmp t t ≢ Less
not_less_itself width cmp order t h e =
    let q = order.itself t h in
    let x : Equal ≡ Less = sym q ∙ e in
    cc

module _ {F : Type 0} {width : ℕ} {cmp : Term → Term → Ordering} (order : IsTermOrder width cmp) where
  abbrev Within : Term × F → Type 0
  Within t = IsTermWithin width t.0

  -- above l, and l is below nothing in the list: then below nothing in the list
  above_all : (t l : Term) (xs : List (Term × F)) → IsTermWithin width t → IsTermWithin width l → All Within xs
      → cmp t l ≡ Greater → All (λ s. cmp l s.0 ≢ Less) xs → All (λ s. cmp t s.0 ≢ Less) xs
  above_all t l xs ht hl hx g h = λ k d b e.
      h k d b (order.transitive l t _ hl ht (hx k d b) (order.opposite l t hl ht ∙ ap ordering_reverse g) e)

  -- a term above the greatest so far is the greatest
  pub take_greatest : (t : Term × F) (xs : List (Term × F)) (lead : Option (Term × F)) → Within t → All Within xs
      → IsGreatestOf cmp xs lead → MatchOption lead (IsTrue true) (λ l. IsTrue true ↔ (cmp t.0 l.0 ≡ Greater))
      → IsGreatestOf cmp (t ∷ xs) (Some t)
  take_greatest t xs None ht hx e m =
      let none : All (λ s. cmp t.0 s.0 ≢ Less) xs = subst (All (λ (s : Term × F). cmp t.0 s.0 ≢ Less)) (sym e) (All-nil (λ (s : Term × F). cmp t.0 s.0 ≢ Less)) in
      ((0, omega arith, refl), All-cons (λ (s : Term × F). cmp t.0 s.0 ≢ Less) t xs (not_less_itself width cmp order t.0 ht) none)
  take_greatest t xs (Some l) ht hx g m =
      let hl : Within l = All-contains Within xs l hx g.0 in (
        (0, omega arith, refl),
        All-cons (λ (s : Term × F). cmp t.0 s.0 ≢ Less) t xs (not_less_itself width cmp order t.0 ht)
            (above_all t.0 l.0 xs ht hl hx (m.0 refl) g.1),
      )

  -- where the term is not above the greatest so far, that remains the greatest
  pub keep_greatest : (t : Term × F) (xs : List (Term × F)) (lead : Option (Term × F)) → Within t → All Within xs
      → IsGreatestOf cmp xs lead → MatchOption lead (IsTrue false) (λ l. IsTrue false ↔ (cmp t.0 l.0 ≡ Greater))
      → IsGreatestOf cmp (t ∷ xs) lead
  keep_greatest t xs None ht hx e m = absurd (false≢true m)
  keep_greatest t xs (Some l) ht hx g m =
      let hl : Within l = All-contains Within xs l hx g.0 in
      let below : cmp l.0 t.0 ≢ Less = λ e. false≢true (m.1 (order.opposite t.0 l.0 ht hl ∙ ap ordering_reverse e)) in
      (Contains-append_right (t ∷ []) xs l g.0, All-cons (λ (s : Term × F). cmp l.0 s.0 ≢ Less) t xs below g.1)

-- there is a greatest term where there is a term
pub greatest_none : {F : Type 0} (cmp : Term → Term → Ordering) (xs : List (Term × F)) (lead : Option (Term × F))
    → IsGreatestOf cmp xs lead → IsNone lead ↔ (xs ≡ [])
greatest_none {F} cmp xs None g = (λ _. g, λ _. refl)
greatest_none {F} cmp xs (Some l) g = (λ e. absurd (false≢true (sym e)), λ e. absurd (omega (arith, ap length e, g.0.1)))

-- the greatest term of a vector, where there is one, and none exactly of zero
pub greatest_term : {F : Type 0} (cmp : Term → Term → Ordering) (v : Vector F) (lead : Option (Term × F))
    → IsGreatestOf cmp (terms v) lead → IfSome lead (λ l. IsGreatestTerm cmp v l.0 l.1)
greatest_term {F} cmp v None g = tt
greatest_term {F} cmp v (Some l) g = record { occurs = g.0; greatest = g.1 }

module _ {F : Type 0} {width : ℕ} {cmp : Term → Term → Ordering} (order : IsTermOrder width cmp) where
  -- terms below the first change nothing
  pub widen_greatest : (t : Term × F) (cs xs : List (Term × F)) (lead : Option (Term × F)) → IsTermWithin width t.0
      → All (λ s. IsTermWithin width s.0) cs → IfSome lead (λ l. IsTermWithin width l.0) → All (λ s. cmp s.0 t.0 ≡ Less) cs
      → IsGreatestOf cmp (t ∷ xs) lead → IsGreatestOf cmp (t ∷ (cs ++ xs)) lead
  widen_greatest t cs xs None ht hc hl b g = absurd (omega (arith, ap length g))
  widen_greatest t cs xs (Some l) ht hc hl b g =
      let N : Term × F → Type 0 = λ s. cmp l.0 s.0 ≢ Less in
      let first = All-head N t xs g.1 in
      let middle : All N cs = λ i d h e. first (order.transitive l.0 _ t.0 hl (hc i d h) ht e (b i d h)) in
      let found : Contains (t ∷ (cs ++ xs)) l = elim (Contains-append_cases (t ∷ []) xs l g.0) [
        | inl c ↦ Contains-append_left (t ∷ []) (cs ++ xs) l c
        | inr c ↦ Contains-append_right (t ∷ []) (cs ++ xs) l (Contains-append_right cs xs l c)
      ] in
      (found, All-cons N t (cs ++ xs) first (All-append N cs xs middle (All-tail N t xs g.1)))
