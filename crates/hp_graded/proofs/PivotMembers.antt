-- The members of one degree that the members before them generate are those at the pivots of the echelon form of the
-- constants of the critical pairs of that degree.
use Rattle.std.specs.Prelude.{◌≡◌, ◌≢◌, ◌↔◌, ℕ, ◌+◌, ◌-◌, ◌<◌, ◌≤◌, List, [], ◌∷◌, map, length, take, All, Contains, slice_index_or}
use Rattle.std.proofs.lemmas.Bool.{cases_eq}
use Rattle.std.proofs.lemmas.List.{get_or-map, length-map}
use Rattle.std.proofs.lemmas.List.FromFn.{get_or-map-range_with_len, length-map-range_with_len}
use Rattle.std.proofs.lemmas.List.Elements.{All-cons, All-from_get_or, All-head, All-map, All-nil, All-tail, All-weaker}
use mathlib.Core.Logic.{inl, inr}
use mathlib.Core.Path.{refl, sym, ap, ◌∙◌, subst}
use native.Mathlib.Omega.{arith}
use Rattle.hp_algebra.specs.Ring.{IsRing, IsCommutative}
use Rattle.hp_algebra.specs.Rows.{IsRow, entry, row_plus, row_scale, row_times, zero_row}
use Rattle.hp_algebra.proofs.Rings.{neg_mul, neg_neg}
use Rattle.hp_algebra.proofs.Rows.{plus-zeros, scale-one, scale-scale, scale-zeros, zeros-row}
use Rattle.hp_linear.specs.Matrices.{Matrix, IsEchelonForm, IsInRowSpace}
use Rattle.hp_linear.specs.Spaces.{IsCombination}
use Rattle.hp_linear.proofs.Combinations.{span-member, times-plus, times-scale, times-zeros}
use Rattle.hp_mono.specs.declared.term.Term.{Term}
use Rattle.hp_mono.specs.Monomials.{Divides, cofactor, degree, lcm}
use Rattle.hp_mono.specs.TermOrders.{IsTermWithin, TermDivides}
use Rattle.hp_mono.proofs.MonomialLaws.{cofactor_product, lcm_comm}
use Rattle.hp_sums.specs.FiniteSums.{total}
use Rattle.hp_sums.proofs.SumSetting.{SumSetting}
use Rattle.hp_sums.proofs.WeightedSums.{scaled}
use Rattle.hp_sums.proofs.EqualTotals.{total-absent}
use Rattle.hp_poly.specs.Polynomials.{constant, poly_ring}
use Rattle.hp_poly.specs.PolyRing.{poly_is_ring, term_poly-IsPoly}
use Rattle.hp_module.specs.Vectors.{Vector, IsVector, IsGenerated, combination, vector_plus, vector_scale, zero_vector}
use Rattle.hp_module.specs.FreeModules.{FreeModule, IsFreeModule, HasDegree, as_listed, coefficient_at, degree_of, terms}
use Rattle.hp_module.specs.Leads.{AreLed, IsGreatestTerm, IsGroebner, WithLeads, lead_at, lead_times, member_at, no_term}
use Rattle.hp_module.specs.CriticalPairs.{lcm_degree, pair_vector}
use Rattle.hp_module.specs.Divisions.{IsDivided}
use Rattle.hp_module.specs.ElimOrders.{elimination_order}
use Rattle.hp_module.specs.EliminationLaws.{elimination-is_order}
use Rattle.hp_module.specs.FallingTerms.{free_module}
use Rattle.hp_module.proofs.VectorSums.{term_setting, terms-zero}
use Rattle.hp_module.proofs.VectorCoefficients.{all-terms, coefficient-plus, coefficient-value, coefficient-zero, plus-vector, within, zero-vector}
use Rattle.hp_module.proofs.MonicVectors.{coefficient-constant, constant-all, constant-vector, plus-degree}
use Rattle.hp_module.proofs.OrderedTerms.{degree-times}
use Rattle.hp_module.proofs.Criterion.{lead-in, lead_of, pair_symbol, pair_top}
use Rattle.hp_module.proofs.GroebnerBases.{remainder_zero}
use Rattle.hp_module.proofs.PairRelations.{divided_pair, pair-degree}
use Rattle.hp_graded.specs.RelationConstants.{ArePairRows, AreRising, IsCovering, IsDegreeRange, IsPairOf, IsPairRow, constant_row, degree_at, falling, unit}
use Rattle.hp_graded.proofs.ConstantRows.{AreCovering, AreDivided, map-all, map-plus, map-scale, map-zero, monic_pair, pair_generated, relation-constants, relation_spanned}
use Rattle.hp_graded.proofs.LastConstants.{IsLastConstant, generated_iff}
use Rattle.hp_graded.proofs.PivotPlaces.{IsFirstPlace, pivot-iff}

module _ {F : Type 0} {M : FreeModule F} (L : IsFreeModule M) {s : WithLeads F} (led : AreLed M s)
    (monic : (i : ℕ) → i < length s.members → IsGreatestTerm M.cmp (member_at s i) (lead_at s i) M.ring.one)
    (apart : (j i : ℕ) → j < length s.members → i < length s.members → TermDivides (lead_at s j) (lead_at s i) → j ≡ i)
    (groebner : IsGroebner M s) (plain : (t : Term) → degree_of M t ≡ degree t.mono) (rising : AreRising s) (start stop : ℕ)
    (range : IsDegreeRange s start stop) where
  open M use {ring, inverse, width, cmp}

  abbrev laws : IsRing ring
  laws = L.field.is_ring

  abbrev comm : IsCommutative ring
  comm = L.field.commutes

  abbrev PR : IsRing (poly_ring ring)
  PR = poly_is_ring laws comm

  abbrev S : SumSetting Term F
  S = term_setting laws comm

  abbrev n : ℕ
  n = length s.members

  -- ---- the columns

  abbrev cols : List ℕ
  cols = falling start stop

  cols-length : length cols ≡ stop - start
  cols-length = length-map-range_with_len (λ c. stop - (c + 1)) 0 (stop - start)

  cols-at : (c : ℕ) → c < length cols → slice_index_or cols c 0 ≡ stop - (c + 1)
  cols-at c l =
      get_or-map-range_with_len (λ c. stop - (c + 1)) 0 (stop - start) c c 0 (omega (arith, l, cols-length)) (omega arith)

  -- ---- the degrees of the members

  abbrev shifts : List ℕ
  shifts = map (degree_of M) s.leads

  abbrev D : ℕ → ℕ
  D i = slice_index_or shifts i 0

  D-lead : (i : ℕ) → i < n → D i ≡ degree_of M (lead_at s i)
  D-lead i l = get_or-map (degree_of M) s.leads i no_term 0 (omega (arith, l, led.same_length))

  D-is : (i : ℕ) → i < n → D i ≡ degree_at s i
  D-is i l = D-lead i l ∙ plain (lead_at s i)

  homogeneous : (i : ℕ) → i < n → HasDegree M (D i) (member_at s i)
  homogeneous i l = subst (λ d. HasDegree M d (member_at s i)) (sym (D-lead i l)) (led.homogeneous i l)

  rises : (i j : ℕ) → i ≤ j → j < n → D i ≤ D j
  rises i j l m =
      let a = D-is i (omega (arith, l, m)) in
      let b = D-is j m in
      let r = rising i j l m in
      omega (arith, a, b, r)

  start-inside : start < n
  start-inside = let a = range.some in let b = range.within in omega (arith, a, b)

  abbrev d : ℕ
  d = degree_at s start

  -- the coefficients of the members, with their degrees
  abbrev MR : FreeModule F
  MR = free_module ring inverse n shifts (elimination_order 0)

  abbrev LR : IsFreeModule MR
  LR = record { field = L.field; order = elimination-is_order 0 n }

  -- the members of the columns have degree d
  column-degree : (c : ℕ) → c < length cols → (slice_index_or cols c 0 < n) × (degree_at s (slice_index_or cols c 0) ≡ d)
  column-degree c l =
      let e = cols-at c l in
      let a = range.some in
      let b = range.within in
      let in_range : slice_index_or cols c 0 < n = omega (arith, e, a, b) in
      (in_range, (range.of_degree (slice_index_or cols c 0) in_range).1 (omega (arith, e, l, cols-length), omega (arith, e, a)))

  -- the degree of a symbol is that of its lead
  symbol-degree : (a : Term) → IsTermWithin n a → degree_of MR a ≡ degree_of M (lead_times s a)
  symbol-degree a h =
      let l : a.comp - 1 < n = omega (arith, h.1, h.2) in
      let w = lead-in L led a.comp h.1 h.2 in
      ap (λ x. degree a.mono + x) (D-lead (a.comp - 1) l) ∙ sym (degree-times M a.mono (lead_at s (a.comp - 1)) h.0 w.0)

  -- ---- constants of relations of degree d

  -- The row has the constants of a relation that is homogeneous of degree d.
  record AreConstants (v : List F) : Type 0 where
    rel : Vector F
    vector : IsVector ring (length s.members) rel
    relation : combination ring width rel s.members ≡ zero_vector ring width
    degrees : HasDegree MR d rel
    same : constant_row ring (falling start stop) rel ≡ v

  constants-zero : AreConstants (zero_row ring (length cols))
  constants-zero = record {
    rel = zero_vector ring n;
    vector = zero-vector laws comm n;
    relation = times-zeros PR width s.members led.vectors;
    degrees = subst (All (λ (t : Term × F). degree_of MR t.0 ≡ d)) (sym (terms-zero ring 1 n)) (All-nil (λ (t : Term × F). degree_of MR t.0 ≡ d));
    same = map-all ring (λ j. coefficient_at ring (zero_vector ring n) (unit j)) (λ j. ring.zero) cols
        (λ i e l. coefficient-zero laws comm n (unit (slice_index_or cols i e))) ∙ map-zero ring cols;
  }

  constants-plus : (v w : List F) → AreConstants v → AreConstants w → AreConstants (row_plus ring v w)
  constants-plus v w a b = record {
    rel = vector_plus ring a.rel b.rel;
    vector = plus-vector laws comm n a.rel b.rel a.vector b.vector;
    relation = times-plus PR width a.rel b.rel s.members (a.vector.0 ∙ sym b.vector.0) a.vector.1 b.vector.1 led.vectors
        ∙ (λ i. vector_plus ring (a.relation i) (b.relation i)) ∙ plus-zeros PR width (zero_vector ring width) (zeros-row PR width);
    degrees = plus-degree LR a.rel b.rel d a.vector b.vector a.degrees b.degrees;
    same = map-all ring (λ j. coefficient_at ring (vector_plus ring a.rel b.rel) (unit j)) _ cols
        (λ i e l. coefficient-plus laws comm n a.rel b.rel (unit (slice_index_or cols i e)) a.vector b.vector)
        ∙ map-plus ring (λ j. coefficient_at ring a.rel (unit j)) (λ j. coefficient_at ring b.rel (unit j)) cols
        ∙ (λ i. row_plus ring (a.same i) (b.same i));
  }

  constants-scale : (c : F) (v : List F) → ring.IsValue c → AreConstants v → AreConstants (row_scale ring c v)
  constants-scale c v vc a =
      let cp = term_poly-IsPoly laws comm c Rattle.hp_mono.specs.Monomials.one vc refl in
      record {
        rel = vector_scale ring (constant ring c) a.rel;
        vector = constant-vector LR c a.rel vc a.vector;
        relation = times-scale PR width (constant ring c) a.rel s.members cp a.vector.1 led.vectors
            ∙ ap (vector_scale ring (constant ring c)) a.relation ∙ scale-zeros PR width (constant ring c) cp;
        degrees = constant-all LR (λ t. degree_of MR t ≡ d) c a.rel vc a.vector a.degrees;
        same = map-all ring (λ j. coefficient_at ring (vector_scale ring (constant ring c) a.rel) (unit j)) _ cols
            (λ i e l. coefficient-constant LR c a.rel (unit (slice_index_or cols i e)) vc a.vector)
            ∙ map-scale ring c (λ j. coefficient_at ring a.rel (unit j)) cols ∙ ap (row_scale ring c) a.same;
      }

  constants-times : (cs : List F) (rows : List (List F)) → All ring.IsValue cs → All AreConstants rows
      → AreConstants (row_times ring (length cols) cs rows)
  constants-times [] rows f g = constants-zero
  constants-times (c ∷ cs) [] f g = constants-zero
  constants-times (c ∷ cs) (row ∷ rows) f g =
      constants-plus _ _ (constants-scale c row (All-head ring.IsValue c cs f) (All-head AreConstants row rows g))
      (constants-times cs rows (All-tail ring.IsValue c cs f) (All-tail AreConstants row rows g))

  -- ---- the pairs, counted from 1

  no : ring.IsValue (ring.neg ring.one)
  no = laws.neg_value ring.one laws.one_value

  pair-lcm : (j i : ℕ) → 1 ≤ j → j ≤ n → 1 ≤ i → i ≤ n
      → degree_of M (lead_times s (pair_symbol L led i j)) ≡ lcm_degree (lead_of L led j, lead_of L led i)
  pair-lcm j i lj hj li hi =
      let x = (lead_of L led i).mono in
      let y = (lead_of L led j).mono in
      plain (lead_times s (pair_symbol L led i j))
      ∙ ap degree (cofactor_product x y ((lead-in L led i li hi).0 ∙ sym (lead-in L led j lj hj).0) ∙ lcm_comm x y)

  pair-constants : (j i : ℕ) → 1 ≤ j → j < i → i ≤ n → (lead_of L led j).comp ≡ (lead_of L led i).comp
      → degree_of M (lead_times s (pair_symbol L led i j)) ≡ d → (qs r : Vector F)
      → IsDivided M (pair_vector ring s (j - 1) (i - 1) ring.one ring.one) s qs r → AreConstants (constant_row ring cols qs)
  pair-constants j i lo less hi same at_d qs r div =
      let p = monic_pair L led monic j i lo (omega (arith, less, hi)) (omega (arith, lo, less)) hi same in
      let ne : j ≢ i = λ q. absurd (omega (arith, q, less)) in
      let z = remainder_zero L led groebner (pair_generated L led p) div in
      let rel = divided_pair L led p div z in
      let a = rel.1 in
      let q : AreConstants (row_scale ring (ring.neg ring.one) (constant_row ring cols qs)) = record {
        rel = rel.0;
        vector = a.vector;
        relation = a.zero;
        degrees = relation-degrees rel.0 a.vector (λ b. a.same b) (lead-in L led j lo (omega (arith, less, hi))) (lead-in L led i (omega (arith, lo, less)) hi) div.quotients (div.degrees d (subst (λ e. HasDegree M e (pair_vector ring s (j - 1) (i - 1) ring.one ring.one)) at_d (pair-degree L led p)));
        same = map-all ring (λ k. coefficient_at ring rel.0 (unit k)) _ cols
            (λ x e l. relation-constants L led p apart ne qs rel.0 div.quotients a (slice_index_or cols x e))
            ∙ map-scale ring (ring.neg ring.one) (λ k. coefficient_at ring qs (unit k)) cols;
      } in
      let v = constant_row ring cols qs in
      let hv : IsRow ring (length cols) v = (
        length-map cols (λ k. coefficient_at ring qs (unit k)),
        All-map ring.IsValue (λ k. coefficient_at ring qs (unit k)) cols
            (λ x e l. coefficient-value laws comm n qs (unit (slice_index_or cols x e)) div.quotients),
      ) in
      subst AreConstants (scale-scale laws (length cols) (ring.neg ring.one) (ring.neg ring.one) v no no hv
      ∙ ap (λ c. row_scale ring c v) (neg_mul laws ring.one (ring.neg ring.one) laws.one_value no ∙ ap ring.neg (laws.one_mul (ring.neg ring.one) no) ∙ neg_neg laws ring.one laws.one_value)
      ∙ scale-one laws (length cols) v hv) (constants-scale (ring.neg ring.one) _ no q)
    where
      relation-degrees : (rel : Vector F) → IsVector ring n rel
          → ((b : Term) → coefficient_at ring rel b ≡ total as_listed ring ((pair_symbol L led i j, ring.one) ∷ (pair_symbol L led j i, ring.neg ring.one) ∷ scaled ring (ring.neg ring.one) (terms qs)) b)
          → IsTermWithin width (lead_of L led j) → IsTermWithin width (lead_of L led i) → IsVector ring n qs
          → All (λ a. degree_of M (lead_times s a.0) ≡ d) (terms qs) → HasDegree MR d rel
      relation-degrees rel h e wj wi f g =
          all-terms laws comm n rel (λ b. degree_of MR b ≡ d) h (λ b hb m. elim (cases_eq (degree_of MR b) d) [
            | inl q ↦ q
            | inr o ↦
                let Other : Term × F → Type 0 = λ t. b ≢ t.0 in
                let xs = scaled ring (ring.neg ring.one) (terms qs) in
                let x : Term × F = (pair_symbol L led i j, ring.one) in
                let y : Term × F = (pair_symbol L led j i, ring.neg ring.one) in
                let apart_from : (t : Term) → degree_of M (lead_times s t) ≡ d → b ≢ t = λ t q w. o (symbol-degree b hb ∙ ap (λ u. degree_of M (lead_times s u)) w ∙ q) in
                absurd (m (e b ∙ total-absent S (x ∷ y ∷ xs) b
                (All-cons Other x (y ∷ xs) (apart_from (pair_symbol L led i j) at_d)
                (All-cons Other y xs (apart_from (pair_symbol L led j i) (ap (degree_of M) (pair_top L led i j wi.0 wj.0 same) ∙ at_d))
                (All-map Other (λ t. (t.0, ring.mul (ring.neg ring.one) t.1)) (terms qs) (All-weaker (λ (t : Term × F). degree_of M (lead_times s t.0) ≡ d) Other (λ t q. apart_from t.0 q) (terms qs) g))))))
          ])

  -- ---- the rows of the pairs

  module _ (P : ℕ → ℕ → Type 0) (rows : List (List F)) (pair_rows : ArePairRows M s start stop P rows) where
    abbrev FromPair : List F → Type 0
    FromPair row = (j i : ℕ) × IsPairOf s d j i × IsPairRow M s start stop j i row

    from-pair : (row : List F) → FromPair row → IsRow ring (length cols) row × AreConstants row
    from-pair row p =
        let j = p.0 in
        let i = p.1 in
        let bj : (j + 1) - 1 ≡ j = omega arith in
        let bi : (i + 1) - 1 ≡ i = omega arith in
        let less = p.2.earlier in
        let hi = p.2.inside in
        let same : (lead_of L led (j + 1)).comp ≡ (lead_of L led (i + 1)).comp =
        ap (λ k. (lead_at s k).comp) bj ∙ p.2.same_component ∙ ap (λ k. (lead_at s k).comp) (sym bi) in
        let at : degree_of M (lead_times s (pair_symbol L led (i + 1) (j + 1))) ≡ d =
        pair-lcm (j + 1) (i + 1) (omega arith) (omega (arith, less, hi)) (omega arith) (omega (arith, hi))
        ∙ (λ x. lcm_degree (lead_at s (bj x), lead_at s (bi x))) ∙ p.2.lcm_degree_is in
        let div : IsDivided M (pair_vector ring s ((j + 1) - 1) ((i + 1) - 1) ring.one ring.one) s p.3.0 p.3.1 =
        subst (λ v. IsDivided M v s p.3.0 p.3.1) (λ x. pair_vector ring s (sym bj x) (sym bi x) ring.one ring.one) p.3.2 in (
          subst (IsRow ring (length cols)) (sym p.3.3) (
            length-map cols (λ k. coefficient_at ring p.3.0 (unit k)),
            All-map ring.IsValue (λ k. coefficient_at ring p.3.0 (unit k)) cols
                (λ x e l. coefficient-value laws comm n p.3.0 (unit (slice_index_or cols x e)) div.quotients),
          ),
          subst AreConstants (sym p.3.3) (pair-constants (j + 1) (i + 1) (omega arith) (omega (arith, less)) (omega (arith, hi)) same at p.3.0 p.3.1 div),
        )

    rows-are : All (IsRow ring (length cols)) rows
    rows-are = All-weaker FromPair (IsRow ring (length cols)) (λ row p. (from-pair row p).0) rows pair_rows.each

    rows-constants : All AreConstants rows
    rows-constants = All-weaker FromPair AreConstants (λ row p. (from-pair row p).1) rows pair_rows.each

    at-degree : All (λ j. (j < length s.members) × (degree_of M (lead_at s j) ≡ d)) cols
    at-degree = All-from_get_or (λ (j : ℕ). (j < length s.members) × (degree_of M (lead_at s j) ≡ d)) cols 0
        (λ c l. let r = column-degree c l in (r.0, plain (lead_at s (slice_index_or cols c 0)) ∙ r.1))

    module _ (e : Matrix F) (pivots : List ℕ) (form : IsEchelonForm M.ring (record { cols = stop - start; rows = rows }) e pivots)
        (i : ℕ) (low : start ≤ i) (high : i < stop) where
      inside : i < n
      inside = let b = range.within in omega (arith, high, b)

      of-degree : D i ≡ d
      of-degree = D-is i inside ∙ (range.of_degree i inside).1 (low, high)

      -- the column of the member
      abbrev c : ℕ
      c = stop - i

      place : c - 1 < length cols
      place = omega (arith, low, high, cols-length)

      place-is : slice_index_or cols (c - 1) 0 ≡ i
      place-is = let e = cols-at (c - 1) place in omega (arith, e, low, high)

      constant-at : (rel : Vector F) (b : ℕ) → b < length cols
          → entry ring (constant_row ring cols rel) b ≡ coefficient_at ring rel (unit (slice_index_or cols b 0))
      constant-at rel b l = get_or-map (λ k. coefficient_at ring rel (unit k)) cols b 0 ring.zero l

      is-pivot : Contains pivots c ↔ ((v : List F) × IsInRowSpace ring (record { cols = length cols; rows = rows }) v × IsFirstPlace ring v (c - 1))
      is-pivot = pivot-iff laws L.field.one_zero (record { cols = length cols; rows = rows }) e rows-are pivots
          (subst (λ w. IsEchelonForm ring (record { cols = w; rows = rows }) e pivots) (sym cols-length) form)
          c (omega (arith, high)) (omega (arith, low, high, cols-length))

      last_from_pivot : Contains pivots c → (rel : Vector F) × IsLastConstant ring width s.members D i rel
      last_from_pivot at =
          let p = is-pivot.0 at in
          let k = subst AreConstants (sym p.1.2) (constants-times p.1.0 rows p.1.1.1 rows-constants) in
          let entry-is : (b : ℕ) → b < length cols → entry ring p.0 b ≡ coefficient_at ring k.rel (unit (slice_index_or cols b 0)) =
          λ b l. ap (λ v. entry ring v b) (sym k.same) ∙ constant-at k.rel b l in (
            k.rel,
            record {
              vector = k.vector;
              relation = k.relation;
              degrees = All-weaker (λ (a : Term × F). degree_of MR a.0 ≡ d) (λ a. degree a.0.mono + D (a.0.comp - 1) ≡ D i)
                  (λ a q. q ∙ sym of-degree) (terms k.rel) k.degrees;
              here = λ z. p.2.0 (entry-is (c - 1) place ∙ ap (λ x. coefficient_at ring k.rel (unit x)) place-is ∙ z);
              later = λ j less l q.
                  let r = (range.of_degree j l).0 (sym (D-is j l) ∙ q ∙ of-degree) in
                  let b = stop - (j + 1) in
                  let lb : b < length cols = omega (arith, r.0, r.1, cols-length) in
                  let back : slice_index_or cols b 0 ≡ j = (let e = cols-at b lb in omega (arith, e, r.1)) in
                  ap (λ x. coefficient_at ring k.rel (unit x)) (sym back) ∙ sym (entry-is b lb)
                  ∙ p.2.1 b (omega (arith, less, r.1, high));
            },
          )

      -- ---- where the pairs with rows cover all pairs

      module _ (covering : IsCovering s P) where
        abbrev Q : ℕ → ℕ → Type 0
        Q j i = P (j - 1) (i - 1)

        known : AreDivided L led monic apart d cols at-degree rows rows-are Q
        known j i lo less hi same q pr =
            let r = pair_rows.all (j - 1) (i - 1) (record {
              earlier = omega (arith, less, lo);
              inside = omega (arith, less, lo, hi);
              same_component = same;
              lcm_degree_is = sym (pair-lcm j i lo (omega (arith, less, hi)) (omega (arith, lo, less)) hi) ∙ q;
            }) pr in
            (r.2.0, r.2.1, r.2.2, subst (IsCombination ring (length cols) rows) r.2.3 (span-member laws (length cols) rows r.0 rows-are r.1))

        covering-symbols : AreCovering L led monic apart d cols at-degree rows rows-are Q
        covering-symbols j i lo less hi same =
            let c = covering (j - 1) (i - 1) (omega (arith, lo, less)) (omega (arith, less, hi)) same in
            let k = c.place in
            let back : (k + 1) - 1 ≡ k = omega arith in (
              k + 1,
              omega arith,
              (let x = c.earlier in omega (arith, x, less, lo)),
              ap (λ x. (lead_at s x).comp) back ∙ c.same_component,
              subst (λ x. P x (i - 1)) (sym back) c.listed,
              subst (λ x. Divides (cofactor (lead_at s (i - 1)).mono (lead_at s x).mono) (cofactor (lead_at s (i - 1)).mono (lead_at s (j - 1)).mono)) (sym back) c.divides,
            )

        spanned : (rel : Vector F) → IsVector ring n rel → combination ring width rel s.members ≡ zero_vector ring width
            → (e : ℕ) → HasDegree MR e rel → IsCombination ring (length cols) rows (constant_row ring cols rel)
        spanned rel h z e f =
            let w = within laws comm n rel h in
            relation_spanned L led monic apart d cols at-degree rows rows-are groebner Q known covering-symbols rel h z e (λ x t l.
            let q = symbol-degree (slice_index_or (terms rel) x t).0 (w x t l) in
            let p = f x t l in
            omega (arith, q, p))

        pivot_from_last : ((rel : Vector F) × IsLastConstant ring width s.members D i rel) → Contains pivots c
        pivot_from_last r =
            let rel = r.0 in
            let last = r.1 in
            is-pivot.1 (
              constant_row ring cols rel,
              spanned rel last.vector last.relation (D i) last.degrees,
              (
                (λ z. last.here (ap (λ x. coefficient_at ring rel (unit x)) (sym place-is) ∙ sym (constant-at rel (c - 1) place) ∙ z)),
                (λ b less.
                    let lb : b < length cols = omega (arith, less, place) in
                    let e = cols-at b lb in
                    let g = column-degree b lb in
                    constant-at rel b lb
                    ∙ last.later (slice_index_or cols b 0) (omega (arith, e, less, high)) g.0 (D-is (slice_index_or cols b 0) g.0 ∙ g.1 ∙ sym of-degree)),
              ),
            )

        -- The member is generated by those before it exactly where its column has a pivot.
        pub pivot_generated : Contains pivots (stop - i) ↔ IsGenerated M.ring M.width (take i s.members) (slice_index_or s.members i [])
        pivot_generated =
            let g = generated_iff L s.members led.vectors D homogeneous rises i inside in
            (λ at. g.1 (last_from_pivot at), λ h. pivot_from_last (g.0 h))

      -- Where each column has a pivot each member is generated, whichever pairs have rows.
      pub pivot_full : Contains pivots (stop - i) → Contains pivots (stop - i) ↔ IsGenerated M.ring M.width (take i s.members) (slice_index_or s.members i [])
      pivot_full at =
          let g = generated_iff L s.members led.vectors D homogeneous rises i inside in
          (λ x. g.1 (last_from_pivot x), λ h. at)
