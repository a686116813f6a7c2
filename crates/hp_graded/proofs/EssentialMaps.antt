-- Substitutions that put forms x_i + .. for chosen variables, in which only other variables follow, and keep the others:
-- they are onto, keep first terms, and leave exponents at chosen places no greater.
use Rattle.std.specs.Prelude.{◌≡◌, ◌≢◌, ◌⊎◌, ℕ, zero, suc, set, replicate, ◌+◌, ◌-◌, ◌<◌, ◌≤◌, Bool, true, false, List, [], ◌∷◌, length, All, slice_index_or}
use Rattle.std.specs.declared.cmp.Ordering.TheVariants.{Less}
use Rattle.std.specs.Cmp.{tied_itself}
use Rattle.std.proofs.lemmas.Bool.{cases_Bool, cases_eq, cases_lt}
use Rattle.std.proofs.lemmas.List.Elements.{All-cons, All-from_get_or, All-head, All-nil, All-tail, All-weaker}
use mathlib.Core.Logic.{inl, inr}
use mathlib.Core.Path.{refl, sym, ap, ◌∙◌, subst}
use native.Mathlib.Omega.{arith}
use Rattle.hp_algebra.specs.Ring.{RingOf, IsRing, IsCommutative, IsField}
use Rattle.hp_algebra.specs.Rows.{IsRow, entry, row_minus, row_plus, row_scale, row_times, unit_row}
use Rattle.hp_algebra.proofs.Rows.{scale-zero}
use Rattle.hp_algebra.proofs.UnitRows.{identity-are, identity-at, identity-length, identity_rows, unit-one, unit-row, unit-zero}
use Rattle.hp_linear.proofs.InverseMatrices.{times-identity}
use Rattle.hp_mono.specs.Monomials as mono
use Rattle.hp_mono.specs.Monomials.{Monomial, IsMonomial, degree, variable, vars}
use Rattle.hp_sums.proofs.SumSetting.{SumSetting}
use Rattle.hp_sums.proofs.Collected.{sum-after}
use Rattle.hp_sums.proofs.FirstTerms.{one_term}
use Rattle.hp_poly.specs.Polynomials.{Poly, IsPoly, from_greatest, linear_form, poly_plus, poly_ring, term_poly}
use Rattle.hp_poly.specs.PolyRing.{poly_is_ring, term_poly-IsPoly}
use Rattle.hp_poly.specs.PolySetting.{from_greatest_total, poly_setting}
use Rattle.hp_poly.specs.Substitutions.{IsOneToOne, IsOnto, IsPolyMap, IsTriangular, KeepsFirst, substituted}
use Rattle.hp_poly.proofs.FormTerms.{form-first, form-terms, variable-degree}
use Rattle.hp_poly.proofs.LinearForms.{linear_form-IsPoly, variable-monomial}
use Rattle.hp_poly.proofs.OntoMaps.{one_to_one, onto_from_variables}
use Rattle.hp_poly.proofs.SubstitutedForms.{image-variable, linear_form-plus, substituted-form}
use Rattle.hp_poly.proofs.SubstitutedTerms.{keeps_first}
use Rattle.hp_poly.proofs.Substitutions.{image-IsPoly, substituted-term, substitution_is_map}
use Rattle.hp_graded.proofs.KeptExponents.{IsBounded}
use Rattle.hp_graded.proofs.SubstitutedEntries.{IsUnder}

-- Rows for the variables x_1, .., x_l: row i begins with 1 at place i, and is zero at the other chosen places; those of
-- variables that aren't chosen are unit rows. The polynomials are their forms, and then the later variables.
pub record IsEssential {F : Type 0} (ring : RingOf F) (l : ℕ) (rows : List (List F)) (ks : List Bool) (xs : List (Poly F)) : Type 0 where
  pub few : l ≤ vars
  pub are : All (IsRow ring l) rows
  pub many : length rows ≡ l
  pub own : (i : ℕ) → i < l → entry ring (slice_index_or rows i []) i ≡ ring.one
  pub before : (i k : ℕ) → i < l → k < i → entry ring (slice_index_or rows i []) k ≡ ring.zero
  pub apart : (i k : ℕ) → i < l → k < l → i ≢ k → slice_index_or ks k false ≡ true → entry ring (slice_index_or rows i []) k ≡ ring.zero
  pub free : (i : ℕ) → i < l → slice_index_or ks i false ≡ false → slice_index_or rows i [] ≡ unit_row ring l (i + 1)
  pub chosen : length ks ≤ l
  pub long : length xs ≡ vars
  pub forms : (i : ℕ) → i < l → slice_index_or xs i [] ≡ linear_form ring (slice_index_or rows i [])
  pub later : (i : ℕ) → l ≤ i → i < vars → slice_index_or xs i [] ≡ term_poly ring ring.one (variable (i + 1))

module _ {F : Type 0} {ring : RingOf F} {inverse : F → F} (field : IsField ring inverse) {l : ℕ} {rows : List (List F)}
    {ks : List Bool} {xs : List (Poly F)} (es : IsEssential ring l rows ks xs) where
  open ring use {IsValue, add, neg, mul}

  abbrev laws : IsRing ring
  laws = field.is_ring

  abbrev comm : IsCommutative ring
  comm = field.commutes

  abbrev PR : IsRing (poly_ring ring)
  PR = poly_is_ring laws comm

  abbrev S : SumSetting Monomial F
  S = poly_setting laws comm

  abbrev row : ℕ → List F
  row i = slice_index_or rows i []

  row-is : (i : ℕ) → i < l → IsRow ring l (row i)
  row-is i h = let m = es.many in es.are i [] (omega (arith, h, m))

  -- ---- first terms

  own-first : (i : ℕ) → i < l → (rest : Poly F) × (linear_form ring (row i) ≡ (variable (i + 1), ring.one) ∷ rest)
  own-first i h =
      let r = row-is i h in
      let few = es.few in
      let long = r.0 in
      let one = es.own i h in
      let f = form-first field (row i) i r.1 (omega (arith, h, long)) (omega (arith, long, few)) (λ z. field.one_zero (sym one ∙ z)) (λ k less. es.before i k h less) in
      (f.0, f.1 ∙ ap (λ c. (variable (i + 1), c) ∷ f.0) one)

  later-first : (i : ℕ) → i < vars → term_poly ring ring.one (variable (i + 1)) ≡ (variable (i + 1), ring.one) ∷ []
  later-first i h = one_term S (variable (i + 1)) ring.one laws.one_value field.one_zero

  poly-at : (i : ℕ) → i < vars → IsPoly ring (slice_index_or xs i [])
  poly-at i h = elim (cases_lt i l) [
    | inl a ↦ subst (IsPoly ring) (sym (es.forms i a)) (linear_form-IsPoly laws comm (row i) (row-is i a).1)
    | inr b ↦ subst (IsPoly ring) (sym (es.later i b h)) (term_poly-IsPoly laws comm ring.one (variable (i + 1)) laws.one_value (variable-monomial (i + 1)))
  ]

  pub essential-polys : All (IsPoly ring) xs
  essential-polys = All-from_get_or (IsPoly ring) xs [] (λ i h. let m = es.long in poly-at i (omega (arith, h, m)))

  abbrev First : ℕ → Type 0
  First i = (rest : Poly F) × (slice_index_or xs i [] ≡ (variable (i + 1), ring.one) ∷ rest)

  first-at : (i : ℕ) → i < vars → First i
  first-at i h = elim (cases_lt i l) [
    | inl a ↦ of_form i a
    | inr b ↦ of_later i b h
  ]
    where
      of_form : (i : ℕ) → i < l → First i
      of_form i a = let f = own-first i a in (f.0, es.forms i a ∙ f.1)

      of_later : (i : ℕ) → l ≤ i → i < vars → First i
      of_later i b h = ([], es.later i b h ∙ later-first i h)

  pub essential-triangular : IsTriangular ring xs
  essential-triangular = record { long = es.long; polys = poly-at; first = first-at }

  pub essential-map : IsPolyMap ring (substituted ring xs)
  essential-map = substitution_is_map field xs essential-polys

  pub essential-keeps : KeepsFirst ring (substituted ring xs)
  essential-keeps = keeps_first field xs essential-triangular essential-polys

  pub essential-one_to_one : IsOneToOne ring (substituted ring xs)
  essential-one_to_one = one_to_one field essential-map essential-keeps

  -- ---- exponents

  zero-bounded : (qs : List Bool) (n k : ℕ) (m : Monomial) → slice_index_or qs k false ≡ false
      → IsBounded qs (set (replicate n 0) k 1) m
  zero-bounded [] n k m e = tt
  zero-bounded (q ∷ qs) zero k m e = tt
  zero-bounded (q ∷ qs) (suc n) k [] e = bounded-none (q ∷ qs) k n
    where
      bounded-none : (qs : List Bool) (k n : ℕ) → IsBounded qs (set (replicate (suc n) 0) k 1) []
      bounded-none [] k n = tt
      bounded-none (q ∷ qs) zero n = tt
      bounded-none (q ∷ qs) (suc k) n = tt
  zero-bounded (true ∷ qs) (suc n) zero (y ∷ m) e = absurd (cc)
  zero-bounded (false ∷ qs) (suc n) zero (y ∷ m) e = zeros-bounded qs n m
    where
      zeros-bounded : (qs : List Bool) (n : ℕ) (m : Monomial) → IsBounded qs (replicate n 0) m
      zeros-bounded [] n m = tt
      zeros-bounded (q ∷ qs) zero m = tt
      zeros-bounded (q ∷ qs) (suc n) [] = tt
      zeros-bounded (true ∷ qs) (suc n) (y ∷ m) = (omega arith, zeros-bounded qs n m)
      zeros-bounded (false ∷ qs) (suc n) (y ∷ m) = zeros-bounded qs n m
  zero-bounded (true ∷ qs) (suc n) (suc k) (y ∷ m) e = (omega arith, zero-bounded qs n k m e)
  zero-bounded (false ∷ qs) (suc n) (suc k) (y ∷ m) e = zero-bounded qs n k m e

  itself-bounded : (qs : List Bool) (m : Monomial) → IsBounded qs m m
  itself-bounded [] m = tt
  itself-bounded (q ∷ qs) [] = tt
  itself-bounded (true ∷ qs) (y ∷ m) = (omega arith, itself-bounded qs m)
  itself-bounded (false ∷ qs) (y ∷ m) = itself-bounded qs m

  under-itself : (i : ℕ) → i < vars → IsUnder ks (variable (i + 1)) (variable (i + 1))
  under-itself i h = record {
    monomial = variable-monomial (i + 1);
    above = variable-monomial (i + 1);
    same_degree = refl;
    bounded = itself-bounded ks (variable (i + 1));
  }

  under-form : (i : ℕ) → i < l → All (λ t. IsUnder ks t.0 (variable (i + 1))) (linear_form ring (row i))
  under-form i h =
      let r = row-is i h in
      let few = es.few in
      All-weaker (λ (t : Monomial × F). (k : ℕ) × (k < length (row i)) × (entry ring (row i) k ≢ ring.zero) × (t.0 ≡ variable (k + 1)))
      (λ t. IsUnder ks t.0 (variable (i + 1))) (λ t w.
      let k = w.0 in
      let lk : k < l = (let a = w.1 in let b = r.0 in omega (arith, a, b)) in
      subst (λ b. IsUnder ks b (variable (i + 1))) (sym w.3) (elim (cases_eq i k) [
        | inl e ↦ subst (λ j. IsUnder ks (variable (j + 1)) (variable (i + 1))) e (under-itself i (omega (arith, h, few)))
        | inr o ↦ elim (cases_Bool (slice_index_or ks k false)) [
          | inl t ↦ absurd (w.2 (es.apart i k h lk o t))
          | inr f ↦
              let back : (k + 1) - 1 ≡ k = omega arith in
              let dk = variable-degree k (omega (arith, lk, few)) in
              let di = variable-degree i (omega (arith, h, few)) in
              record {
                monomial = variable-monomial (k + 1);
                above = variable-monomial (i + 1);
                same_degree = dk ∙ sym di;
                bounded = subst (λ j. IsBounded ks (set mono.one j 1) (variable (i + 1))) (sym back) (zero-bounded ks vars k (variable (i + 1)) f);
              }
        ]
      ])) (linear_form ring (row i)) (form-terms field (row i) r.1)

  pub essential-under : (i : ℕ) → i < vars → All (λ t. IsUnder ks t.0 (variable (i + 1))) (slice_index_or xs i [])
  essential-under i h = elim (cases_lt i l) [
    | inl a ↦ subst (All (λ (t : Monomial × F). IsUnder ks t.0 (variable (i + 1)))) (sym (es.forms i a)) (under-form i a)
    | inr b ↦ subst (All (λ (t : Monomial × F). IsUnder ks t.0 (variable (i + 1)))) (sym (es.later i b h ∙ later-first i h))
        (All-cons (λ (t : Monomial × F). IsUnder ks t.0 (variable (i + 1))) (variable (i + 1), ring.one) [] (under-itself i h)
        (All-nil (λ (t : Monomial × F). IsUnder ks t.0 (variable (i + 1)))))
  ]

  -- ---- onto

  -- rows that differ only where the coefficient is zero have the same combination
  times-agree : (cs : List F) (us vs : List (List F)) → All IsValue cs → All (IsRow ring l) us → All (IsRow ring l) vs → length us ≡ length vs
      → ((k : ℕ) → k < length us → (entry ring cs k ≡ ring.zero) ⊎ (slice_index_or us k [] ≡ slice_index_or vs k []))
      → row_times ring l cs us ≡ row_times ring l cs vs
  times-agree [] us vs v hu hv e h = refl
  times-agree (c ∷ cs) [] [] v hu hv e h = refl
  times-agree (c ∷ cs) [] (y ∷ vs) v hu hv e h = absurd (omega (arith, e))
  times-agree (c ∷ cs) (x ∷ us) [] v hu hv e h = absurd (omega (arith, e))
  times-agree (c ∷ cs) (x ∷ us) (y ∷ vs) v hu hv e h =
      let rx = All-head (IsRow ring l) x us hu in
      let ry = All-head (IsRow ring l) y vs hv in
      let first : row_scale ring c x ≡ row_scale ring c y = elim (h 0 (omega arith)) [
        | inl z ↦ ap (λ a. row_scale ring a x) z ∙ scale-zero laws l x rx ∙ sym (ap (λ a. row_scale ring a y) z ∙ scale-zero laws l y ry)
        | inr q ↦ ap (row_scale ring c) q
      ] in
      let rest = times-agree cs us vs (All-tail IsValue c cs v) (All-tail (IsRow ring l) x us hu) (All-tail (IsRow ring l) y vs hv) (omega (arith, e)) (λ k m. h (suc k) (omega (arith, m))) in
      λ i. row_plus ring (first i) (rest i)

  -- a row that is zero at the chosen places is its own combination
  times-free : (d : List F) → IsRow ring l d → ((k : ℕ) → k < l → slice_index_or ks k false ≡ true → entry ring d k ≡ ring.zero)
      → row_times ring l d rows ≡ d
  times-free d h z =
      times-agree d rows (identity_rows ring l) h.1 es.are (identity-are laws l) (es.many ∙ sym (identity-length ring l))
      (λ k m.
      let many = es.many in
      let lk : k < l = omega (arith, m, many) in
      elim (cases_Bool (slice_index_or ks k false)) [
        | inl t ↦ inl (z k lk t)
        | inr f ↦ inr (es.free k lk f ∙ sym (identity-at ring l k [] lk))
      ])
      ∙ times-identity laws l d h

  unit-form : (i : ℕ) → i < l → linear_form ring (unit_row ring l (i + 1)) ≡ term_poly ring ring.one (variable (i + 1))
  unit-form i h =
      let u = unit-row laws l (i + 1) in
      let few = es.few in
      let long = u.0 in
      let one = unit-one laws l i h in
      let f = form-first field (unit_row ring l (i + 1)) i u.1 (omega (arith, h, long)) (omega (arith, long, few)) (λ z. field.one_zero (sym one ∙ z))
      (λ k less. unit-zero laws l i k (omega (arith, less, h)) (λ e. absurd (omega (arith, e, less)))) in
      let head : Monomial × F = (variable (i + 1), entry ring (unit_row ring l (i + 1)) i) in
      let none : f.0 ≡ [] = only f.0 head f.1 refl in
      f.1 ∙ (λ x. (variable (i + 1), one x) ∷ none x) ∙ sym (later-first i (omega (arith, h, few)))
    where
      only : (rest : Poly F) (head : Monomial × F) → linear_form ring (unit_row ring l (i + 1)) ≡ head ∷ rest → head.0 ≡ variable (i + 1) → rest ≡ []
      only [] head e q = refl
      only (t ∷ rest) head e q =
          let u = unit-row laws l (i + 1) in
          let p = subst (IsPoly ring) e (linear_form-IsPoly laws comm (unit_row ring l (i + 1)) u.1) in
          let after = All-head (λ (x : Monomial × F). from_greatest head.0 x.0 ≡ Less) t rest (sum-after S head (t ∷ rest) p.is_sum) in
          let all = subst (All (λ (x : Monomial × F). (k : ℕ) × (k < length (unit_row ring l (i + 1))) × (entry ring (unit_row ring l (i + 1)) k ≢ ring.zero) × (x.0 ≡ variable (k + 1)))) e
          (form-terms field (unit_row ring l (i + 1)) u.1) in
          let w = all 1 head (omega arith) in
          let lw : w.0 < l = (let a = w.1 in let b = u.0 in omega (arith, a, b)) in
          absurd (elim (cases_eq i w.0) [
            | inl s ↦
                let x = sym after ∙ (λ j. from_greatest (q j) (w.3 j)) ∙ ap (λ k. from_greatest (variable (i + 1)) (variable (k + 1))) (sym s) ∙ tied_itself from_greatest_total (variable (i + 1)) in cc
            | inr o ↦ w.2 (unit-zero laws l i w.0 lw o)
          ])

  variable-image : (i : ℕ) → i < vars → substituted ring xs (term_poly ring ring.one (variable (i + 1))) ≡ slice_index_or xs i []
  variable-image i h =
      substituted-term field xs essential-polys ring.one (variable (i + 1)) laws.one_value field.one_zero
      ∙ PR.one_mul _ (image-IsPoly field xs essential-polys (variable (i + 1)))
      ∙ image-variable field xs essential-polys es.long i h

  abbrev Hit : ℕ → Type 0
  Hit i = (q : Poly F) × IsPoly ring q × (substituted ring xs q ≡ term_poly ring ring.one (variable (i + 1)))

  variable-poly : (i : ℕ) → IsPoly ring (term_poly ring ring.one (variable (i + 1)))
  variable-poly i = term_poly-IsPoly laws comm ring.one (variable (i + 1)) laws.one_value (variable-monomial (i + 1))

  minus-entry : (a b : List F) (k : ℕ) → length a ≡ length b → k < length a → entry ring (row_minus ring a b) k ≡ add (entry ring a k) (neg (entry ring b k))
  minus-entry [] b k e h = absurd (omega (arith, h))
  minus-entry (x ∷ a) [] k e h = absurd (omega (arith, e))
  minus-entry (x ∷ a) (y ∷ b) zero e h = refl
  minus-entry (x ∷ a) (y ∷ b) (suc k) e h = minus-entry a b k (omega (arith, e)) (omega (arith, h))

  minus-row : (a b : List F) → length a ≡ length b → All IsValue a → All IsValue b → IsRow ring (length a) (row_minus ring a b)
  minus-row [] [] e v w = (refl, All-nil IsValue)
  minus-row [] (y ∷ b) e v w = absurd (omega (arith, e))
  minus-row (x ∷ a) [] e v w = absurd (omega (arith, e))
  minus-row (x ∷ a) (y ∷ b) e v w =
      let r = minus-row a b (omega (arith, e)) (All-tail IsValue x a v) (All-tail IsValue y b w) in
      let n = r.0 in
      (omega (arith, n), All-cons IsValue _ _ (laws.add_value x _ (All-head IsValue x a v) (laws.neg_value y (All-head IsValue y b w))) r.1)

  plus-minus : (a b : List F) → length a ≡ length b → All IsValue a → All IsValue b → row_plus ring b (row_minus ring a b) ≡ a
  plus-minus [] [] e v w = refl
  plus-minus [] (y ∷ b) e v w = absurd (omega (arith, e))
  plus-minus (x ∷ a) [] e v w = absurd (omega (arith, e))
  plus-minus (x ∷ a) (y ∷ b) e v w =
      let vx = All-head IsValue x a v in
      let vy = All-head IsValue y b w in
      let n = laws.neg_value y vy in
      let first : add y (add x (neg y)) ≡ x =
      laws.add_comm y _ vy (laws.add_value x (neg y) vx n) ∙ laws.add_assoc x (neg y) y vx n vy
      ∙ ap (add x) (laws.add_comm (neg y) y n vy ∙ laws.add_neg y vy) ∙ laws.add_zero x vx in
      let rest = plus-minus a b (omega (arith, e)) (All-tail IsValue x a v) (All-tail IsValue y b w) in
      λ i. first i ∷ rest i

  hit-chosen : (i : ℕ) → i < l → Hit i
  hit-chosen i h =
      let u = unit_row ring l (i + 1) in
      let hu = unit-row laws l (i + 1) in
      let r = row-is i h in
      let d = row_minus ring u (row i) in
      let same : length u ≡ length (row i) = hu.0 ∙ sym r.0 in
      let hm = minus-row u (row i) same hu.1 r.1 in
      let hd : IsRow ring l d = (hm.0 ∙ hu.0, hm.1) in
      let few = es.few in
      let none : (k : ℕ) → k < l → slice_index_or ks k false ≡ true → entry ring d k ≡ ring.zero =
      λ k lk t. minus-entry u (row i) k same (let a = hu.0 in omega (arith, lk, a)) ∙ elim (cases_eq i k) [
        | inl e ↦ (λ x. add (entry ring u (sym e x)) (neg (entry ring (row i) (sym e x)))) ∙ (λ x. add (unit-one laws l i h x) (neg (es.own i h x))) ∙ laws.add_neg ring.one laws.one_value
        | inr o ↦ (λ x. add (unit-zero laws l i k lk o x) (neg (es.apart i k h lk o t x))) ∙ laws.add_neg ring.zero laws.zero_value
      ] in
      let px = variable-poly i in
      let pd = linear_form-IsPoly laws comm d hd.1 in
      let own = variable-image i (omega (arith, h, few)) ∙ es.forms i h in
      let rest : substituted ring xs (linear_form ring d) ≡ linear_form ring d =
      substituted-form field xs essential-polys es.long l rows es.are es.many es.few es.forms d hd ∙ ap (linear_form ring) (times-free d hd none) in (
        poly_plus ring (term_poly ring ring.one (variable (i + 1))) (linear_form ring d),
        PR.add_value _ _ px pd,
        essential-map.plus _ _ px pd ∙ (λ x. poly_plus ring (own x) (rest x))
            ∙ sym (linear_form-plus field (row i) d (r.0 ∙ sym hd.0) r.1 hd.1)
            ∙ ap (linear_form ring) (plus-minus u (row i) same hu.1 r.1) ∙ unit-form i h,
      )

  hit-later : (i : ℕ) → l ≤ i → i < vars → Hit i
  hit-later i b h = (term_poly ring ring.one (variable (i + 1)), variable-poly i, variable-image i h ∙ es.later i b h)

  variable-hit : (i : ℕ) → i < vars → Hit i
  variable-hit i h = elim (cases_lt i l) [ inl a ↦ hit-chosen i a | inr b ↦ hit-later i b h ]

  pub essential-onto : IsOnto ring (substituted ring xs)
  essential-onto = onto_from_variables field essential-map variable-hit
