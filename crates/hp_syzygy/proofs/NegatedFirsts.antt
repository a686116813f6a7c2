-- The negatives of the terms in the first variables, as a vector: its terms.
use Rattle.std.specs.Prelude.{◌≡◌, ◌≢◌, ℕ, ◌+◌, Bool, true, false, cond, T, List, [], ◌∷◌, ◌++◌, map, filter, All}
use Rattle.std.specs.FinMap.Entries.{is_sorted, is_sorted-where_key, where_key}
use Rattle.std.specs.Ordering.{eq_by_cmp}
use Rattle.std.proofs.lemmas.List.{length-map, map-append}
use Rattle.std.proofs.lemmas.List.Elements.{All-filter, All-head, All-map, All-tail, All-weaker, filter-append}
use mathlib.Core.Path.{refl, sym, ap, ◌∙◌, subst}
use Rattle.hp_algebra.specs.Ring.{RingOf, IsRing, IsCommutative}
use Rattle.hp_algebra.proofs.Rings.{neg_mul}
use Rattle.hp_mono.specs.declared.term.Term.{Term}
use Rattle.hp_mono.specs.Monomials.{Monomial, IsMonomial}
use Rattle.hp_sums.specs.FiniteSums.{HasValues, IsSum, total}
use Rattle.hp_sums.proofs.WeightedSums.{scaled}
use Rattle.hp_sums.proofs.EqualTotals.{total-scaled}
use Rattle.hp_sums.proofs.Collected.{sum-values, tie}
use Rattle.hp_sums.proofs.FirstTerms.{negative_negated}
use Rattle.hp_poly.specs.Polynomials.{Poly, IsPoly, from_greatest, poly_neg}
use Rattle.hp_poly.specs.PolySetting.{poly_setting}
use Rattle.hp_poly.specs.PolyRing.{poly_is_ring}
use Rattle.hp_module.specs.Vectors.{Vector, IsVector}
use Rattle.hp_module.specs.FreeModules.{as_listed, coefficient_at, terms, terms_from}
use Rattle.hp_module.proofs.VectorSums.{as_listed_same, term_setting, terms-values}
use Rattle.hp_syzygy.specs.VariableTests.{first_terms, in_first, negated_firsts}

-- whether a symbol has only the first variables
abbrev pub is_first : ℕ → Term → Bool
is_first l t = in_first l t.mono

-- the symbols that do
abbrev pub first_symbols : {F : Type 0} → ℕ → List (Term × F) → List (Term × F)
first_symbols l xs = filter (λ t. is_first l t.0) xs

module _ {F : Type 0} {ring : RingOf F} (laws : IsRing ring) (commutes : IsCommutative ring) (l : ℕ) where
  abbrev test : Monomial × F → Bool
  test t = in_first l t.0

  where-filter : (p : Poly F) → where_key from_greatest (in_first l) p ≡ first_terms l p
  where-filter [] = refl
  where-filter (t ∷ p) = (λ i. cond (in_first l t.0) (t ∷ where-filter p i) (where-filter p i))

  first-sum : (p : Poly F) → IsPoly ring p → IsSum from_greatest ring (first_terms l p)
  first-sum p f = record {
    sorted = subst (λ q. T (is_sorted from_greatest q)) (where-filter p) (is_sorted-where_key from_greatest (in_first l) p f.is_sum.sorted);
    values = All-filter test (λ t. ring.IsValue t.1 × (t.1 ≢ ring.zero)) p f.is_sum.values;
  }

  first-poly : (p : Poly F) → IsPoly ring p → IsPoly ring (first_terms l p)
  first-poly p f = record { is_sum = first-sum p f; monomials = All-filter test (λ t. IsMonomial t.0) p f.monomials }

  pub negated-vector : (n : ℕ) (qs : Vector F) → IsVector ring n qs → IsVector ring n (negated_firsts ring l qs)
  negated-vector n qs h = (
    length-map qs (λ q. poly_neg ring (first_terms l q)) ∙ h.0,
    All-map (IsPoly ring) (λ q. poly_neg ring (first_terms l q)) qs
        (All-weaker (IsPoly ring) (λ q. IsPoly ring (poly_neg ring (first_terms l q)))
        (λ q f. (poly_is_ring laws commutes).neg_value (first_terms l q) (first-poly q f)) qs h.1),
  )

  -- the terms of an entry
  turned : (k : ℕ) (p : Poly F) → HasValues ring p
      → map (λ (t : Monomial × F). (record { mono = t.0; comp = k }, t.1)) (map (λ t. (t.0, ring.neg t.1)) (first_terms l p))
      ≡ scaled ring (ring.neg ring.one) (first_symbols l (map (λ (t : Monomial × F). (record { mono = t.0; comp = k }, t.1)) p))
  turned k [] h = refl
  turned k (t ∷ p) h =
      let V : Monomial × F → Type 0 = λ u. ring.IsValue u.1 in
      let vt = All-head V t p h in
      let e = sym (neg_mul laws ring.one t.1 laws.one_value vt ∙ ap ring.neg (laws.one_mul t.1 vt)) in
      let r = turned k p (All-tail V t p h) in
      pick (in_first l t.0) e r
    where
      enter : Monomial × F → Term × F
      enter u = (record { mono = u.0; comp = k }, u.1)

      pick : (z : Bool) → ring.neg t.1 ≡ ring.mul (ring.neg ring.one) t.1
          → map enter (map (λ u. (u.0, ring.neg u.1)) (first_terms l p)) ≡ scaled ring (ring.neg ring.one) (first_symbols l (map enter p))
          → map enter (map (λ u. (u.0, ring.neg u.1)) (cond z (t ∷ first_terms l p) (first_terms l p)))
          ≡ scaled ring (ring.neg ring.one) (cond z (enter t ∷ first_symbols l (map enter p)) (first_symbols l (map enter p)))
      pick true e r = λ i. (record { mono = t.0; comp = k }, e i) ∷ r i
      pick false e r = r

  negated-from : (k : ℕ) (qs : Vector F) → All (IsPoly ring) qs
      → terms_from k (negated_firsts ring l qs) ≡ scaled ring (ring.neg ring.one) (first_symbols l (terms_from k qs))
  negated-from k [] h = refl
  negated-from k (p ∷ qs) h =
      let f = All-head (IsPoly ring) p qs h in
      let enter : Monomial × F → Term × F = λ t. (record { mono = t.0; comp = k }, t.1) in
      let down : Term × F → Term × F = λ t. (t.0, ring.mul (ring.neg ring.one) t.1) in
      let here = ap (map enter) (negative_negated (poly_setting laws commutes) (first_terms l p) (first-sum p f))
      ∙ turned k p (sum-values (poly_setting laws commutes) p f.is_sum) in
      let rest = negated-from (k + 1) qs (All-tail (IsPoly ring) p qs h) in
      (λ i. here i ++ rest i)
      ∙ sym (map-append down (first_symbols l (map enter p)) (first_symbols l (terms_from (k + 1) qs)))
      ∙ ap (map down) (sym (filter-append (λ (t : Term × F). is_first l t.0) (map enter p) (terms_from (k + 1) qs)))

  -- the coefficients are those of the symbols, negated
  pub negated-at : (n : ℕ) (qs : Vector F) (b : Term) → IsVector ring n qs
      → coefficient_at ring (negated_firsts ring l qs) b
      ≡ ring.mul (ring.neg ring.one) (total as_listed ring (first_symbols l (terms qs)) b)
  negated-at n qs b h =
      ap (λ xs. total as_listed ring xs b) (negated-from 1 qs h.1)
      ∙ total-scaled (term_setting laws commutes) (ring.neg ring.one) (first_symbols l (terms qs)) b (laws.neg_value ring.one laws.one_value)
      (All-filter (λ (t : Term × F). is_first l t.0) (λ t. ring.IsValue t.1) (terms qs) (terms-values laws commutes 1 qs h.1))

  -- the total of the symbols that are kept
  pub total-first : (xs : List (Term × F)) (b : Term)
      → total as_listed ring (first_symbols l xs) b ≡ cond (is_first l b) (total as_listed ring xs b) ring.zero
  total-first [] b = none (is_first l b)
    where
      none : (z : Bool) → ring.zero ≡ cond z ring.zero ring.zero
      none true = refl
      none false = refl
  total-first (x ∷ xs) b =
      let ys = first_symbols l xs in
      out (is_first l x.0) ys
      ∙ go (is_first l x.0) (eq_by_cmp as_listed b x.0) (is_first l b) (total as_listed ring ys b) (total as_listed ring xs b) (total-first xs b)
      (λ e. ap (is_first l) (sym (as_listed_same b x.0 (tie (as_listed b x.0) e))))
    where
      out : (z : Bool) (ys : List (Term × F)) → total as_listed ring (cond z (x ∷ ys) ys) b
          ≡ cond z (total as_listed ring (x ∷ ys) b) (total as_listed ring ys b)
      out true ys = refl
      out false ys = refl

      go : (z e q : Bool) (y w : F) → y ≡ cond q w ring.zero → (e ≡ true → z ≡ q)
          → cond z (cond e (ring.add y x.1) y) y ≡ cond q (cond e (ring.add w x.1) w) ring.zero
      go true true true y w h f = ap (λ u. ring.add u x.1) h
      go true true false y w h f = let k = f refl in absurd (cc)
      go true false q y w h f = h
      go false true true y w h f = let k = f refl in absurd (cc)
      go false true false y w h f = h
      go false false q y w h f = h
