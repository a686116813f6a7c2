-- The vector of a pair that was divided: a remainder that is zero, or that is the last member, gives a relation of the
-- pair.
use Rattle.std.specs.Prelude.{◌≡◌, ◌≢◌, ℕ, ◌+◌, ◌-◌, ◌<◌, ◌≤◌, [], ◌∷◌, ◌++◌, map, length, All, slice_index_or}
use Rattle.std.specs.declared.cmp.Ordering.TheVariants.{Less, Equal, Greater}
use Rattle.std.proofs.lemmas.List.{length-append}
use Rattle.std.proofs.lemmas.List.Elements.{All-contains, All-nil, All-push, All-weaker}
use mathlib.Core.Logic.{inl, inr}
use mathlib.Core.Path.{refl, sym, ap, ◌∙◌, subst}
use native.Mathlib.Omega.{arith}
use Rattle.hp_algebra.specs.Ring.{IsRing, IsCommutative}
use Rattle.hp_mono.specs.declared.term.Term.{Term}
use Rattle.hp_mono.specs.Monomials as mono
use Rattle.hp_mono.specs.Monomials.{IsMonomial, cofactor, degree}
use Rattle.hp_mono.specs.TermOrders.{IsTermWithin, times}
use Rattle.hp_mono.proofs.TermLaws.{times-one}
use Rattle.hp_sums.specs.FiniteSums.{total}
use Rattle.hp_sums.proofs.WeightedSums.{weighted, weighted_ext}
use Rattle.hp_poly.specs.Polynomials.{IsPoly, term_poly}
use Rattle.hp_poly.specs.PolyRing.{poly_is_ring}
use Rattle.hp_module.specs.Vectors.{Vector, IsVector, combination, vector_plus, vector_scale, zero_vector}
use Rattle.hp_module.specs.FreeModules.{FreeModule, IsFreeModule, IsIn, HasDegree, as_listed, coefficient_at, degree_of, plus_term, terms, terms_from}
use Rattle.hp_module.specs.Leads.{AreLed, IsGreatestTerm, WithLeads, lead_at, lead_times, member_at}
use Rattle.hp_module.specs.CriticalPairs.{pair_vector}
use Rattle.hp_module.specs.Divisions.{IsDivided}
use Rattle.hp_module.proofs.VectorSums.{term_setting}
use Rattle.hp_module.proofs.VectorCoefficients.{coefficient-combination, coefficient-ext, coefficient-plus, combination-plus_term, combination-vector, family, image, plus_term-all, plus_term-vector, within}
use Rattle.hp_module.proofs.ShiftedTerms.{shifted-one}
use Rattle.hp_module.proofs.GreatestTerms.{greatest-at, greatest-degree, zero_or_greatest}
use Rattle.hp_module.proofs.MonicVectors.{coefficient-constant, lead-value, monic-back, times_constant}
use Rattle.hp_module.proofs.Criterion.{lead_of, pair_symbol, pair_symbol-in, top-in}
use Rattle.hp_module.proofs.ResolvedPairs.{IsResolved}
use Rattle.hp_module.proofs.PairRelations.{IsPair, divided_pair, pair-degree, pair-low, pair-vector, pair_relation}
use Rattle.hp_module.proofs.LongerBases.{longer, longer-length, longer-led, earlier-lead_of, earlier-member, earlier-pair, earlier-top, last-lead, last-member}

-- the terms of a vector with a zero more
terms-widened : {F : Type 0} (k : ℕ) (qs : Vector F) → terms_from k (qs ++ [] ∷ []) ≡ terms_from k qs
terms-widened k [] = refl
terms-widened k (q ∷ qs) = ap (λ xs. map (λ t. (record { mono = t.0; comp = k }, t.1)) q ++ xs) (terms-widened (k + 1) qs)

module _ {F : Type 0} {M : FreeModule F} (L : IsFreeModule M) {w : WithLeads F} (led : AreLed M w)
    (monic : (i : ℕ) → i < length w.members → IsGreatestTerm M.cmp (member_at w i) (lead_at w i) M.ring.one) where
  open M use {ring, inverse, width, cmp}

  abbrev laws : IsRing ring
  laws = L.field.is_ring

  abbrev comm : IsCommutative ring
  comm = L.field.commutes

  -- monic members of one component are a pair with factors 1
  pub monic-pair : (j i : ℕ) → 1 ≤ j → j ≤ length w.members → 1 ≤ i → i ≤ length w.members
      → (lead_of L led j).comp ≡ (lead_of L led i).comp → IsPair L led j i M.ring.one M.ring.one
  monic-pair j i a b c d e =
      let one_at : (k : ℕ) → 1 ≤ k → k ≤ length w.members → coefficient_at ring (member_at w (k - 1)) (lead_of L led k) ≡ ring.one =
      λ k x y.
      let l : k - 1 < length w.members = omega (arith, x, y) in
      (greatest-at L (member_at w (k - 1)) (lead_at w (k - 1)) ring.one (led.vectors (k - 1) [] l) (monic (k - 1) l)).1 in
      record {
        j_low = a;
        j_high = b;
        i_low = c;
        i_high = d;
        same_comp = e;
        a_value = laws.one_value;
        b_value = laws.one_value;
        a_nonzero = L.field.one_zero;
        balanced = ap (ring.mul ring.one) (one_at i c d ∙ sym (one_at j a b));
      }

  module _ (j i : ℕ) (a : 1 ≤ j) (b : j ≤ length w.members) (c : 1 ≤ i) (d : i ≤ length w.members)
      (same : (lead_of L led j).comp ≡ (lead_of L led i).comp) {qs r : Vector F}
      (D : IsDivided M (pair_vector M.ring w (j - 1) (i - 1) M.ring.one M.ring.one) w qs r) where
    abbrev p : IsPair L led j i M.ring.one M.ring.one
    p = monic-pair j i a b c d same

    abbrev v : Vector F
    v = pair_vector ring w (j - 1) (i - 1) ring.one ring.one

    abbrev top : Term
    top = lead_times w (pair_symbol L led i j)

    -- a remainder that is zero
    pub resolved-zero : r ≡ zero_vector M.ring M.width → IsResolved L led j i
    resolved-zero z =
        let q = divided_pair L led p D z in
        record { relation = q.0; vector = q.1.vector; zero = q.1.zero; pair = q.1.relation }

    top_in : IsTermWithin width top
    top_in = top-in L led (pair_symbol L led i j) (pair_symbol-in L led i j c d a b)

    hv : IsIn M v
    hv = pair-vector L led p

    -- not above the lead of the vector is below the lcm
    chain : (u t : Term) → IsTermWithin width u → IsTermWithin width t → cmp u t ≢ Greater → cmp t top ≡ Less → cmp u top ≡ Less
    chain u t hu ht n e =
        elim (cmp u t) as (λ o. cmp u t ≡ o → cmp u top ≡ Less) [
          | Less ↦ λ q. L.order.transitive u t top hu ht top_in q e
          | Equal ↦ λ q. ap (λ x. cmp x top) (L.order.same u t hu ht q) ∙ e
          | Greater ↦ λ q. absurd (n q)
        ] refl

    low_lead : (t : Term) (x : F) → IsGreatestTerm cmp v t x → cmp t top ≡ Less
    low_lead t x g = All-contains (λ (s : Term × F). cmp s.0 top ≡ Less) (terms v) (t, x) (pair-low L led p) g.occurs

    qw : All (λ t. IsTermWithin (length w.members) t.0) (terms qs)
    qw = within laws comm (length w.members) qs D.quotients

    symbols-low : All (λ t. cmp (lead_times w t.0) top ≡ Less) (terms qs)
    symbols-low =
        elim (zero_or_greatest L v hv) [
          | inl e ↦ subst (All (λ (t : Term × F). cmp (lead_times w t.0) top ≡ Less))
              (sym (ap terms (D.of_zero e).0 ∙ Rattle.hp_module.proofs.VectorSums.terms-zero ring 1 (length w.members)))
              (All-nil (λ (t : Term × F). cmp (lead_times w t.0) top ≡ Less))
          | inr g ↦
              let at = greatest-at L v g.0 g.1 hv g.2 in
              λ k y m. chain _ g.0 (top-in L led _ (qw k y m)) at.0 (D.not_above g.0 g.1 g.2 k y m) (low_lead g.0 g.1 g.2)
        ]

    -- ---- a remainder that, made monic, is the last member

    module _ {t : Term} {x : F} (gt : IsGreatestTerm M.cmp r t x) (hm : IsIn M (times_constant L (M.inverse x) r))
        (gm : IsGreatestTerm M.cmp (times_constant L (M.inverse x) r) t M.ring.one) where
      abbrev m : Vector F
      m = times_constant L (inverse x) r

      vx : ring.IsValue x
      vx = lead-value L r t x D.rest gt

      rest-degree : HasDegree M (degree_of M top) r
      rest-degree = D.rest_degrees (degree_of M top) (pair-degree L led p)

      t-degree : degree_of M t ≡ degree_of M top
      t-degree = greatest-degree L r t x (degree_of M top) gt rest-degree

      t-in : IsTermWithin width t
      t-in = (greatest-at L r t x D.rest gt).0

      t-low : cmp t top ≡ Less
      t-low =
          elim (zero_or_greatest L v hv) [
            | inl e ↦ absurd (Rattle.hp_module.proofs.GreatestTerms.greatest-nonzero L r t x D.rest gt (D.of_zero e).1)
            | inr g ↦
                let at = greatest-at L v g.0 g.1 hv g.2 in
                chain t g.0 t-in at.0 (All-contains (λ (y : Term × F). cmp y.0 g.0 ≢ Greater) (terms r) (t, x) (D.rest_not_above g.0 g.1 g.2) gt.occurs)
                (low_lead g.0 g.1 g.2)
          ]

      module _ (hd : HasDegree M (degree_of M t) (times_constant L (inverse x) r)) where
        abbrev w' : WithLeads F
        w' = longer w m t

        abbrev led' : AreLed M (longer w (times_constant L (inverse x) r) t)
        led' = longer-led L led hm gm hd

        many : length (w.members ++ m ∷ []) ≡ length w.members + 1
        many = longer-length L led hm gm hd

        -- the new member as a symbol
        abbrev unit : Term
        unit = record { mono = mono.one; comp = length w.members + 1 }

        unit-in : IsTermWithin (length (w.members ++ m ∷ [])) unit
        unit-in = (refl, omega arith, omega (arith, many))

        abbrev wide : Vector F
        wide = qs ++ [] ∷ []

        wide-vector : IsVector ring (length (w.members ++ m ∷ [])) wide
        wide-vector =
            let q0 = D.quotients.0 in
            (omega (arith, length-append qs ([] ∷ []), q0, many), All-push (IsPoly ring) qs [] D.quotients.1 (poly_is_ring laws comm).zero_value)

        abbrev qs' : Vector F
        qs' = plus_term ring wide unit x

        qs'-vector : IsVector ring (length (w.members ++ m ∷ [])) qs'
        qs'-vector = plus_term-vector laws comm (length (w.members ++ m ∷ [])) wide unit x wide-vector unit-in vx

        wide-at : (y : Term) → coefficient_at ring (combination ring width wide (w.members ++ m ∷ [])) y
            ≡ coefficient_at ring (combination ring width qs w.members) y
        wide-at y =
            coefficient-combination laws comm width wide (w.members ++ m ∷ []) wide-vector led'.vectors y
            ∙ ap (weighted ring (image laws comm (family laws comm (w.members ++ m ∷ [])) y)) (terms-widened 1 qs)
            ∙ weighted_ext (term_setting laws comm) (image laws comm (family laws comm (w.members ++ m ∷ [])) y) (image laws comm (family laws comm w.members) y) (terms qs)
            (λ k z l.
            let a = (slice_index_or (terms qs) k z).0 in
            let h = qw k z l in
            let h1 = h.1 in
            let h2 = h.2 in
            ap (λ u. total as_listed ring (Rattle.hp_module.proofs.VectorSums.shifted a.mono (terms u)) y)
            (earlier-member L led hm gm hd (a.comp - 1) (omega (arith, h1, h2))))
            ∙ sym (coefficient-combination laws comm width qs w.members D.quotients led.vectors y)

        unit-at : (y : Term) → image laws comm (family laws comm (w.members ++ m ∷ [])) y unit ≡ coefficient_at ring m y
        unit-at y =
            let back : length w.members + 1 - 1 ≡ length w.members = omega arith in
            ap (λ u. total as_listed ring (Rattle.hp_module.proofs.VectorSums.shifted mono.one (terms u)) y)
            (ap (λ k. member_at w' k) back ∙ last-member L led hm gm hd)
            ∙ ap (λ xs. total as_listed ring xs y)
            (shifted-one (terms m) (All-weaker (λ (t : Term × F). IsTermWithin width t.0) (λ t. IsMonomial t.0.mono) (λ t h. h.0) (terms m) (within laws comm width m hm)))

        whole-at : (y : Term) → coefficient_at ring v y ≡ coefficient_at ring (combination ring width qs' (w.members ++ m ∷ [])) y
        whole-at y =
            let comb = combination ring width qs w.members in
            let cv = combination-vector laws comm width qs w.members D.quotients.1 led.vectors in
            let rest : coefficient_at ring r y ≡ ring.mul x (coefficient_at ring m y) =
            ap (λ u. coefficient_at ring u y) (monic-back L r t x D.rest gt) ∙ coefficient-constant L x m y vx hm in
            ap (λ u. coefficient_at ring u y) D.sum ∙ coefficient-plus laws comm width comb r y cv D.rest
            ∙ (λ k. ring.add (sym (wide-at y) k) ((rest ∙ ap (ring.mul x) (sym (unit-at y))) k))
            ∙ sym (combination-plus_term laws comm width wide (w.members ++ m ∷ []) unit x wide-vector led'.vectors unit-in vx y)

        -- the pair in the longer list
        j-high : j ≤ length (w.members ++ m ∷ [])
        j-high = omega (arith, b, many)

        i-high : i ≤ length (w.members ++ m ∷ [])
        i-high = omega (arith, d, many)

        lead-j : lead_of L led' j ≡ lead_of L led j
        lead-j = earlier-lead_of L led hm gm hd j a b

        lead-i : lead_of L led' i ≡ lead_of L led i
        lead-i = earlier-lead_of L led hm gm hd i c d

        top-same : lead_times w' (pair_symbol L led' i j) ≡ top
        top-same =
            ap (lead_times w') (earlier-pair L led hm gm hd i j c d a b)
            ∙ earlier-top L led hm gm hd (pair_symbol L led i j) (pair_symbol-in L led i j c d a b)

        vector-same : pair_vector ring w' (j - 1) (i - 1) ring.one ring.one ≡ v
        vector-same =
            let mj = earlier-member L led hm gm hd (j - 1) (omega (arith, a, b)) in
            let mi = earlier-member L led hm gm hd (i - 1) (omega (arith, c, d)) in
            λ k. vector_plus ring (vector_scale ring (term_poly ring ring.one (cofactor (lead-i k).mono (lead-j k).mono)) (mi k))
            (vector_scale ring (term_poly ring (ring.neg ring.one) (cofactor (lead-j k).mono (lead-i k).mono)) (mj k))

        abbrev Low : Term → Type 0
        Low u =
            (degree_of M (lead_times w' u) ≡ degree_of M (lead_times w' (pair_symbol L led' i j)))
            × (cmp (lead_times w' u) (lead_times w' (pair_symbol L led' i j)) ≡ Less)

        low-from : (u s : Term) → lead_times w' u ≡ s → degree_of M s ≡ degree_of M top → cmp s top ≡ Less → Low u
        low-from u s e f g =
            (ap (degree_of M) e ∙ f ∙ sym (ap (degree_of M) top-same), (λ k. cmp (e k) (top-same k)) ∙ g)

        unit-low : Low unit
        unit-low =
            let back : length w.members + 1 - 1 ≡ length w.members = omega arith in
            low-from unit t (ap (times mono.one) (ap (λ k. lead_at w' k) back ∙ last-lead L led hm gm hd) ∙ times-one t t-in.0) t-degree t-low

        all-low : All (λ u. Low u.0) (terms qs')
        all-low =
            let degrees = D.degrees (degree_of M top) (pair-degree L led p) in
            let old : All (λ (u : Term × F). Low u.0) (terms qs) =
            (λ k z l.
            low-from (slice_index_or (terms qs) k z).0 (lead_times w (slice_index_or (terms qs) k z).0)
            (earlier-top L led hm gm hd (slice_index_or (terms qs) k z).0 (qw k z l)) (degrees k z l) (symbols-low k z l)) in
            plus_term-all laws comm (length (w.members ++ m ∷ [])) Low wide unit x wide-vector unit-in vx unit-low
            (subst (All (λ (u : Term × F). Low u.0)) (sym (terms-widened 1 qs)) old)

        -- the pair has a relation in the longer list
        pub resolved-pushed : ((k : ℕ) → k < length (w.members ++ times_constant L (inverse x) r ∷ [])
            → IsGreatestTerm M.cmp (member_at (longer w (times_constant L (inverse x) r) t) k)
            (lead_at (longer w (times_constant L (inverse x) r) t) k) M.ring.one)
            → IsResolved L (longer-led L led hm gm hd) j i
        resolved-pushed monic' =
            let one_at : (k : ℕ) → 1 ≤ k → k ≤ length (w.members ++ m ∷ []) → coefficient_at ring (member_at w' (k - 1)) (lead_of L led' k) ≡ ring.one =
            λ k y z.
            let l : k - 1 < length (w.members ++ m ∷ []) = omega (arith, y, z) in
            (greatest-at L (member_at w' (k - 1)) (lead_at w' (k - 1)) ring.one (led'.vectors (k - 1) [] l) (monic' (k - 1) l)).1 in
            let p' : IsPair L led' j i ring.one ring.one = record {
              j_low = a;
              j_high = j-high;
              i_low = c;
              i_high = i-high;
              same_comp = ap (λ u. u.comp) lead-j ∙ same ∙ sym (ap (λ u. u.comp) lead-i);
              a_value = laws.one_value;
              b_value = laws.one_value;
              a_nonzero = L.field.one_zero;
              balanced = ap (ring.mul ring.one) (one_at i c i-high ∙ sym (one_at j a j-high));
            } in
            let cv' = combination-vector laws comm width qs' (w.members ++ m ∷ []) qs'-vector.1 led'.vectors in
            let sum : pair_vector ring w' (j - 1) (i - 1) ring.one ring.one ≡ combination ring width qs' (w.members ++ m ∷ []) =
            vector-same ∙ coefficient-ext laws comm width v _ hv cv' whole-at in
            let q = pair_relation L led' p' qs' qs'-vector sum all-low in
            record { relation = q.0; vector = q.1.vector; zero = q.1.zero; pair = q.1.relation }
