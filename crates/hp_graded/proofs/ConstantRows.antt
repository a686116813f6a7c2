-- The constant coefficients of relations at members of one degree are combinations of those that divisions of the
-- critical pairs of this degree give.
use Rattle.std.specs.Prelude.{◌≡◌, ◌≢◌, ℕ, ◌+◌, ◌-◌, ◌<◌, ◌≤◌, cond, List, [], ◌∷◌, ◌++◌, map, length, All, slice_index_or}
use Rattle.std.proofs.lemmas.Bool.{cases_eq}
use Rattle.std.proofs.lemmas.List.Elements.{All-head, All-map, All-tail, All-weaker}
use mathlib.Core.Logic.{inl, inr}
use mathlib.Core.Path.{refl, sym, ap, ◌∙◌, subst}
use native.Mathlib.Omega.{arith}
use Rattle.hp_algebra.specs.Ring.{RingOf, IsRing, IsCommutative}
use Rattle.hp_algebra.specs.Rows.{IsRow, row_plus, row_scale, zero_row}
use Rattle.hp_algebra.proofs.Rings.{zero_add}
use Rattle.hp_linear.specs.Spaces.{IsCombination}
use Rattle.hp_linear.proofs.Combinations.{span-plus, span-scale, span-zero}
use Rattle.hp_mono.specs.declared.term.Term.{Term}
use Rattle.hp_mono.specs.Monomials as mono
use Rattle.hp_mono.specs.Monomials.{Divides, Monomial, IsMonomial, degree, lcm, product, vars, cofactor}
use Rattle.hp_mono.specs.TermOrders.{IsTermWithin, TermDivides, times}
use Rattle.hp_mono.proofs.MonomialLaws.{cofactor-monomial, cofactor_product, degree_product, lcm_comm, product-one}
use Rattle.hp_sums.specs.FiniteSums.{total}
use Rattle.hp_sums.proofs.SumSetting.{SumSetting}
use Rattle.hp_sums.proofs.Collected.{total-append, total-value}
use Rattle.hp_sums.proofs.WeightedSums.{scaled}
use Rattle.hp_sums.proofs.EqualTotals.{eq-other, total-absent, total-scaled}
use Rattle.hp_module.specs.Vectors.{Vector, IsVector, IsGenerated, combination, zero_vector}
use Rattle.hp_module.specs.FreeModules.{FreeModule, IsFreeModule, as_listed, coefficient_at, degree_of, terms}
use Rattle.hp_module.specs.Leads.{AreLed, IsGreatestTerm, IsGroebner, WithLeads, lead_at, lead_times, member_at}
use Rattle.hp_module.specs.CriticalPairs.{pair_cofactor, pair_vector}
use Rattle.hp_module.specs.Divisions.{IsDivided}
use Rattle.hp_module.proofs.VectorSums.{shifted, term_setting, terms-values}
use Rattle.hp_module.proofs.ShiftedTerms.{shifted-one}
use Rattle.hp_module.proofs.VectorCoefficients.{coefficient-zero, within}
use Rattle.hp_module.proofs.OrderedTerms.{degree-times}
use Rattle.hp_module.proofs.ExchangedGenerators.{degree-zero}
use Rattle.hp_module.proofs.Criterion.{CoversUpTo, IsReducedPair, IsRelationSpace, Ranking, lead-in, lead_of, pair_symbol, symbols_led}
use Rattle.hp_module.proofs.GroebnerLaw.{IsUpTo, combination-symbols, decided, reduced_with}
use Rattle.hp_module.proofs.GreatestTerms.{greatest-at}
use Rattle.hp_module.proofs.GroebnerBases.{remainder_zero}
use Rattle.hp_module.proofs.PairRelations.{IsPair, IsRelationOf, divided_pair, pair-degree, pair-vector}
use Rattle.hp_module.proofs.ResolvedPairs.{IsRelation, relations-space}
use Rattle.hp_module.proofs.Symbols.{generated-member, generated-multiple, generated-plus}
use Rattle.hp_module.proofs.DivisionExistence.{division_exists}
use Rattle.hp_graded.specs.RelationConstants.{constant_row, unit}

-- ---- rows given place by place

module _ {R X : Type 0} (ring : RingOf R) where
  pub map-plus : (f g : X → R) (xs : List X) → map (λ x. ring.add (f x) (g x)) xs ≡ row_plus ring (map f xs) (map g xs)
  map-plus f g [] = refl
  map-plus f g (x ∷ xs) = ap (λ ys. ring.add (f x) (g x) ∷ ys) (map-plus f g xs)

  pub map-scale : (c : R) (f : X → R) (xs : List X) → map (λ x. ring.mul c (f x)) xs ≡ row_scale ring c (map f xs)
  map-scale c f [] = refl
  map-scale c f (x ∷ xs) = ap (λ ys. ring.mul c (f x) ∷ ys) (map-scale c f xs)

  pub map-all : (f g : X → R) (xs : List X) → All (λ x. f x ≡ g x) xs → map f xs ≡ map g xs
  map-all f g [] h = refl
  map-all f g (x ∷ xs) h =
      let e = All-head (λ x. f x ≡ g x) x xs h in
      let r = map-all f g xs (All-tail (λ x. f x ≡ g x) x xs h) in
      λ i. e i ∷ r i

  pub map-zero : (xs : List X) → map (λ x. ring.zero) xs ≡ zero_row ring (length xs)
  map-zero [] = refl
  map-zero (x ∷ xs) = ap (λ ys. ring.zero ∷ ys) (map-zero xs)

-- ---- critical pairs of monic members, counted from 1

module _ {F : Type 0} {M : FreeModule F} (L : IsFreeModule M) {s : WithLeads F} (led : AreLed M s) where
  open M use {ring, inverse, width, cmp}

  abbrev laws : IsRing ring
  laws = L.field.is_ring

  abbrev comm : IsCommutative ring
  comm = L.field.commutes

  abbrev S : SumSetting Term F
  S = term_setting laws comm

  abbrev n : ℕ
  n = length s.members

  pub monic_pair : ((i : ℕ) → i < length s.members → IsGreatestTerm cmp (member_at s i) (lead_at s i) ring.one)
      → (j i : ℕ) → 1 ≤ j → j ≤ length s.members → 1 ≤ i → i ≤ length s.members
      → (lead_of L led j).comp ≡ (lead_of L led i).comp → IsPair L led j i ring.one ring.one
  monic_pair monic j i lj hj li hi same =
      let one : (c : ℕ) → 1 ≤ c → c ≤ n → coefficient_at ring (member_at s (c - 1)) (lead_at s (c - 1)) ≡ ring.one =
      λ c lo hi. let l : c - 1 < n = omega (arith, lo, hi) in (greatest-at L _ _ ring.one (led.vectors (c - 1) [] l) (monic (c - 1) l)).1 in
      record {
        j_low = lj;
        j_high = hj;
        i_low = li;
        i_high = hi;
        same_comp = same;
        a_value = laws.one_value;
        b_value = laws.one_value;
        a_nonzero = L.field.one_zero;
        balanced = ap (ring.mul ring.one) (one i li hi ∙ sym (one j lj hj));
      }

  module _ {j i : ℕ} {a b : F} (p : IsPair L led j i a b) where
    -- the vector of a pair is in the submodule
    pub pair_generated : IsGenerated ring width s.members (pair_vector ring s (j - 1) (i - 1) a b)
    pair_generated =
        let li = lead-in L led i p.i_low p.i_high in
        let lj = lead-in L led j p.j_low p.j_high in
        generated-plus laws comm width s.members led.vectors _ _
        (generated-multiple laws comm width s.members led.vectors a (pair_cofactor ring s (i - 1) (j - 1)) _ p.a_value (cofactor-monomial _ _ li.0 lj.0)
        (generated-member laws comm width s.members led.vectors (i - 1) (omega (arith, p.i_low, p.i_high))))
        (generated-multiple laws comm width s.members led.vectors (ring.neg b) (pair_cofactor ring s (j - 1) (i - 1)) _ (laws.neg_value b p.b_value) (cofactor-monomial _ _ lj.0 li.0)
        (generated-member laws comm width s.members led.vectors (j - 1) (omega (arith, p.j_low, p.j_high))))

    module _ (apart : (j i : ℕ) → j < length s.members → i < length s.members → TermDivides (lead_at s j) (lead_at s i) → j ≡ i) (ne : j ≢ i) where
      -- the symbol of a member is not that of a pair
      unit-up : (k : ℕ) → unit k ≢ pair_symbol L led i j
      unit-up k e =
          let li = (lead-in L led i p.i_low p.i_high).0 in
          let lj = (lead-in L led j p.j_low p.j_high).0 in
          let x = lead_of L led i in
          let y = lead_of L led j in
          let up : lcm x.mono y.mono ≡ x.mono =
          sym (cofactor_product x.mono y.mono (li ∙ sym lj)) ∙ ap (λ u. product u.mono x.mono) (sym e) ∙ product-one x.mono li in
          let q = cofactor_product y.mono x.mono (lj ∙ sym li) ∙ lcm_comm y.mono x.mono ∙ up in
          let c = p.same_comp in
          let same = apart (j - 1) (i - 1) (omega (arith, p.j_low, p.j_high)) (omega (arith, p.i_low, p.i_high))
          (cofactor y.mono x.mono, cofactor-monomial y.mono x.mono lj li, λ z. record { mono = q z; comp = c z }) in
          ne (omega (arith, same, p.j_low, p.i_low))

      unit-down : (k : ℕ) → unit k ≢ pair_symbol L led j i
      unit-down k e =
          let li = (lead-in L led i p.i_low p.i_high).0 in
          let lj = (lead-in L led j p.j_low p.j_high).0 in
          let x = lead_of L led j in
          let y = lead_of L led i in
          let up : lcm x.mono y.mono ≡ x.mono =
          sym (cofactor_product x.mono y.mono (lj ∙ sym li)) ∙ ap (λ u. product u.mono x.mono) (sym e) ∙ product-one x.mono lj in
          let q = cofactor_product y.mono x.mono (li ∙ sym lj) ∙ lcm_comm y.mono x.mono ∙ up in
          let c = sym p.same_comp in
          let same = apart (i - 1) (j - 1) (omega (arith, p.i_low, p.i_high)) (omega (arith, p.j_low, p.j_high))
          (cofactor y.mono x.mono, cofactor-monomial y.mono x.mono li lj, λ z. record { mono = q z; comp = c z }) in
          ne (omega (arith, same, p.j_low, p.i_low))

      -- The relation of a pair has the constants of the quotients, with the other sign.
      pub relation-constants : (qs rel : Vector F) → IsVector ring (length s.members) qs → IsRelationOf L led p qs rel
          → (k : ℕ) → coefficient_at ring rel (unit k) ≡ ring.mul (ring.neg ring.one) (coefficient_at ring qs (unit k))
      relation-constants qs rel f w k =
          let xs = scaled ring (ring.neg ring.one) (terms qs) in
          let tot : List (Term × F) → F = λ ys. total as_listed ring ys (unit k) in
          let down : Term × F = (pair_symbol L led j i, ring.neg b) in
          w.same (unit k)
          ∙ ap (λ z. cond z (ring.add (tot (down ∷ xs)) a) (tot (down ∷ xs))) (eq-other S (unit k) (pair_symbol L led i j) (unit-up k))
          ∙ ap (λ z. cond z (ring.add (tot xs) (ring.neg b)) (tot xs)) (eq-other S (unit k) (pair_symbol L led j i) (unit-down k))
          ∙ total-scaled S (ring.neg ring.one) (terms qs) (unit k) (laws.neg_value ring.one laws.one_value) (terms-values laws comm 1 qs f.1)

  -- ---- relations and their constants at members of one degree

  module _ (monic : (i : ℕ) → i < length s.members → IsGreatestTerm M.cmp (member_at s i) (lead_at s i) M.ring.one)
      (apart : (j i : ℕ) → j < length s.members → i < length s.members → TermDivides (lead_at s j) (lead_at s i) → j ≡ i) where
    abbrev Val : Term × F → Type 0
    Val t = ring.IsValue t.1

    module _ (d : ℕ) (cols : List ℕ) (at_d : All (λ j. (j < length s.members) × (degree_of M (lead_at s j) ≡ d)) cols)
        (rows : List (List F)) (are : All (IsRow M.ring (length cols)) rows) where
      -- the constants of symbols with coefficients
      abbrev constants : List (Term × F) → List F
      constants xs = map (λ j. total as_listed ring xs (unit j)) cols

      abbrev Spanned : List F → Type 0
      Spanned v = IsCombination ring (length cols) rows v

      zeros-spanned : (xs : List (Term × F)) → All (λ j. total as_listed ring xs (unit j) ≡ ring.zero) cols → Spanned (constants xs)
      zeros-spanned xs f =
          subst Spanned (sym (map-all ring (λ j. total as_listed ring xs (unit j)) (λ j. ring.zero) cols f ∙ map-zero ring cols))
          (span-zero laws (length cols) rows are)

      -- the relations with spanned constants are a space, closed under monomials
      abbrev Rel : List (Term × F) → Type 0
      Rel xs = IsRelation L led xs × Spanned (constants xs)

      base : IsRelationSpace L led (IsRelation L led)
      base = relations-space L led

      shifted-spanned : (m : Monomial) (xs : List (Term × F)) → IsMonomial m → Rel xs → Spanned (constants (shifted m xs))
      shifted-spanned m xs im r = elim (cases_eq (degree m) 0) [
        | inl z ↦ subst (λ ys. Spanned (constants ys)) (sym (ap (λ k. shifted k xs) (degree-zero m im z) ∙ shifted-one xs
            (All-weaker (λ (t : Term × F). IsTermWithin n t.0) (λ t. IsMonomial t.0.mono) (λ t w. w.0) xs r.0.inside))) r.1
        | inr o ↦ zeros-spanned (shifted m xs) (λ i e l. total-absent S (shifted m xs) (unit (slice_index_or cols i e))
            (All-map (λ (t : Term × F). unit (slice_index_or cols i e) ≢ t.0) (λ t. (times m t.0, t.1)) xs (λ k y h q.
            let w = r.0.inside k y h in
            let p = degree_product vars m (slice_index_or xs k y).0.mono im w.0 in
            let z : degree mono.one ≡ degree m + degree (slice_index_or xs k y).0.mono = ap (λ u. degree u.mono) q ∙ p in
            o (omega (arith, z, one-degree)))))
      ]
        where
          one-degree : degree mono.one ≡ 0
          one-degree = refl

      space : IsRelationSpace L led Rel
      space = record {
        space = record {
          nothing = (base.space.nothing, zeros-spanned [] (λ i e l. refl));
          sum = λ xs ys p q. (
            base.space.sum xs ys p.0 q.0,
            subst Spanned
                (sym (map-all ring (λ j. total as_listed ring (xs ++ ys) (unit j)) _ cols (λ i e l. total-append S xs ys (unit (slice_index_or cols i e)) p.0.values q.0.values)
                ∙ map-plus ring (λ j. total as_listed ring xs (unit j)) (λ j. total as_listed ring ys (unit j)) cols))
                (span-plus laws (length cols) rows are _ _ p.1 q.1),
          );
          multiple = λ c xs v p. (
            base.space.multiple c xs v p.0,
            subst Spanned
                (sym (map-all ring (λ j. total as_listed ring (scaled ring c xs) (unit j)) _ cols (λ i e l. total-scaled S c xs (unit (slice_index_or cols i e)) v p.0.values)
                ∙ map-scale ring c (λ j. total as_listed ring xs (unit j)) cols))
                (span-scale laws (length cols) rows are c _ v p.1),
          );
          values = λ xs p. p.0.values;
        };
        closed = λ m xs im p. (base.closed m xs im p.0, shifted-spanned m xs im p);
        relations = λ xs b p. p.0.zero b;
      }

      -- ---- the critical pairs, counted from 1

      -- The constants that divisions of these pairs of this degree give are combinations of the rows.
      abbrev pub AreDivided : (ℕ → ℕ → Type 0) → Type 0
      AreDivided P = (j i : ℕ) → 1 ≤ j → j < i → i ≤ length s.members → (lead_of L led j).comp ≡ (lead_of L led i).comp
          → degree_of M (lead_times s (pair_symbol L led i j)) ≡ d → P j i
          → (qs r : Vector F) × IsDivided M (pair_vector M.ring s (j - 1) (i - 1) M.ring.one M.ring.one) s qs r
          × IsCombination M.ring (length cols) rows (constant_row M.ring cols qs)

      -- Each pair is covered by one of these with the same later member, whose cofactor divides its own.
      abbrev pub AreCovering : (ℕ → ℕ → Type 0) → Type 0
      AreCovering P = (j i : ℕ) → 1 ≤ j → j < i → i ≤ length s.members → (lead_of L led j).comp ≡ (lead_of L led i).comp
          → (k : ℕ) × (1 ≤ k) × (k < i) × ((lead_of L led k).comp ≡ (lead_of L led i).comp) × P k i
          × Divides (cofactor (lead_of L led i).mono (lead_of L led k).mono) (cofactor (lead_of L led i).mono (lead_of L led j).mono)

      spanned-pair : (j i : ℕ) (p : IsPair L led j i ring.one ring.one) → j ≢ i → (qs r : Vector F)
          → IsDivided M (pair_vector ring s (j - 1) (i - 1) ring.one ring.one) s qs r → r ≡ zero_vector ring width
          → Spanned (constant_row ring cols qs) → IsReducedPair L led Rel j i
      spanned-pair j i p ne qs r div z sp =
          let rel = divided_pair L led p div z in
          let a = rel.1 in
          let vi = L.field.inverse_value a.relation.first a.relation.first_value a.relation.first_nonzero in
          let no = laws.neg_value ring.one laws.one_value in
          let at : (k : ℕ) → coefficient_at ring rel.0 (unit k) ≡ ring.mul (ring.neg ring.one) (coefficient_at ring qs (unit k)) =
          λ k. relation-constants p apart ne qs rel.0 div.quotients a k in
          reduced_with L led Rel j i rel.0 a.vector a.relation
          (space.space.multiple (inverse a.relation.first) (terms rel.0) vi (
            record {
              values = terms-values laws comm 1 rel.0 a.vector.1;
              inside = within laws comm n rel.0 a.vector;
              zero = λ b. sym (combination-symbols L led rel.0 a.vector b) ∙ ap (λ w. coefficient_at ring w b) a.zero ∙ coefficient-zero laws comm width b;
            },
            subst Spanned (sym (map-all ring (λ k. coefficient_at ring rel.0 (unit k)) _ cols (λ x e l. at (slice_index_or cols x e))
                ∙ map-scale ring (ring.neg ring.one) (λ k. coefficient_at ring qs (unit k)) cols))
                (span-scale laws (length cols) rows are (ring.neg ring.one) _ no sp),
          ))

      module _ (groebner : IsGroebner M s) (P : ℕ → ℕ → Type 0) (known : AreDivided P) (covering : AreCovering P) where
        pair-reduced : (j i : ℕ) → 1 ≤ j → j < i → i ≤ n → (lead_of L led j).comp ≡ (lead_of L led i).comp → P j i
            → IsReducedPair L led Rel j i
        pair-reduced j i lo less hi same pr =
            let p = monic_pair monic j i lo (omega (arith, less, hi)) (omega (arith, lo, less)) hi same in
            let ne : j ≢ i = λ q. absurd (omega (arith, q, less)) in
            let gen = pair_generated p in
            elim (cases_eq (degree_of M (lead_times s (pair_symbol L led i j))) d) [
              | inl q ↦
                  let k = known j i lo less hi same q pr in
                  spanned-pair j i p ne k.0 k.1 k.2 (remainder_zero L led groebner gen k.2) k.3
              | inr o ↦
                  let x = division_exists L led _ (pair-vector L led p) (degree_of M (lead_times s (pair_symbol L led i j))) (pair-degree L led p) in
                  spanned-pair j i p ne x.0 x.1 x.2 (remainder_zero L led groebner gen x.2)
                  (zeros-spanned (terms x.0) (λ e y l. total-absent S (terms x.0) (unit (slice_index_or cols e y))
                  (All-weaker (λ (a : Term × F). degree_of M (lead_times s a.0) ≡ degree_of M (lead_times s (pair_symbol L led i j))) (λ a. unit (slice_index_or cols e y) ≢ a.0)
                  (λ a q w. o (sym q ∙ sym (ap (λ u. degree_of M (lead_times s u)) w) ∙ unit-degree (slice_index_or cols e y) (at_d e y l).0 ∙ (at_d e y l).1))
                  (terms x.0) (x.2.degrees _ (pair-degree L led p)))))
            ]
          where
            unit-degree : (k : ℕ) → k < n → degree_of M (lead_times s (unit k)) ≡ degree_of M (lead_at s k)
            unit-degree k l =
                let back : (k + 1) - 1 ≡ k = omega arith in
                let w = lead-in L led (k + 1) (omega arith) (omega (arith, l)) in
                let x = degree_of M (lead_at s ((k + 1) - 1)) in
                let plain : 0 + x ≡ x = omega arith in
                degree-times M mono.one (lead_at s ((k + 1) - 1)) refl w.0 ∙ plain ∙ ap (λ y. degree_of M (lead_at s y)) back

        rk : Ranking n
        rk = record {
          rank = λ i. i;
          most = n;
          rank_most = λ i lo hi. hi;
          apart = λ i j a b c e q. q;
        }

        covers : (e : ℕ) → CoversUpTo L led Rel (λ i. i) e
        covers e j i a b c h l m q =
            let v = covering j i a l h m in
            record {
              place = v.0;
              low = v.1;
              high = (let x = v.2 in omega (arith, x, h));
              before = v.2;
              same_comp = v.3;
              factor = v.5.0;
              factor_monomial = v.5.1;
              divides = v.5.2;
              reduced = pair-reduced v.0 i v.1 v.2 h v.3 v.4;
            }

        -- The constants of each relation are a combination of the rows.
        pub relation_spanned : (qs : Vector F) → IsVector ring (length s.members) qs
            → combination ring width qs s.members ≡ zero_vector ring width → (e : ℕ) → IsUpTo L led e qs
            → IsCombination ring (length cols) rows (constant_row ring cols qs)
        unfolding symbols_led rk
        relation_spanned qs f z e u =
            elim (decided L led Rel space rk e (covers e) qs f u) [
              | inr t ↦ absurd (t.nonzero (sym (combination-symbols L led qs f (lead_times s t.top))
                  ∙ ap (λ v. coefficient_at ring v (lead_times s t.top)) z ∙ coefficient-zero laws comm width (lead_times s t.top)))
              | inl c ↦ subst Spanned (sym (map-all ring (λ k. coefficient_at ring qs (unit k)) (λ k. total as_listed ring c.rest (unit k)) cols
                  (λ x y l. c.same (unit (slice_index_or cols x y)) ∙ zero_add laws _ (total-value S c.rest (unit (slice_index_or cols x y)) c.member.0.values)))) c.member.1
            ]
