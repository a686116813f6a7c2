-- The relation of a pair of members of a level, from the division of their difference.
use Rattle.std.specs.Prelude.{◌≡◌, ◌≢◌, ℕ, suc, ◌-◌, ◌<◌, ◌≤◌, true, false, cond, List, [], ◌∷◌, length, All, slice_index_or}
use Rattle.std.specs.declared.cmp.Ordering.TheVariants.{Less, Equal, Greater}
use Rattle.std.specs.Ordering.{eq_by_cmp}
use Rattle.std.proofs.lemmas.List.Elements.{All-contains, All-map, All-nil}
use mathlib.Core.Logic.{inl, inr}
use mathlib.Core.Path.{refl, sym, ap, ◌∙◌, subst}
use native.Mathlib.Omega.{arith}
use Rattle.hp_algebra.specs.Ring.{RingOf, IsRing, IsCommutative}
use Rattle.hp_algebra.proofs.Rings.{mul_zero}
use Rattle.hp_mono.specs.declared.term.Term.{Term}
use Rattle.hp_mono.specs.Monomials.{cofactor, max_degree}
use Rattle.hp_mono.specs.TermOrders.{IsTermWithin}
use Rattle.hp_sums.specs.FiniteSums.{total}
use Rattle.hp_sums.proofs.WeightedSums.{scaled, scaled-values}
use Rattle.hp_sums.proofs.EqualTotals.{total-scaled}
use Rattle.hp_poly.specs.Polynomials.{IsInVariables}
use Rattle.hp_module.specs.Vectors.{Vector, IsVector, IsGenerated, combination, vector_plus, zero_vector}
use Rattle.hp_module.specs.FreeModules.{FreeModule, IsFreeModule, IsGraded, as_listed, coefficient_at, degree_of, plus_term, terms}
use Rattle.hp_module.specs.Leads.{WithLeads, lead_times, member_at}
use Rattle.hp_module.specs.CriticalPairs.{pair_vector}
use Rattle.hp_module.specs.Derivations.{IsVectorInVariables}
use Rattle.hp_module.specs.Divisions.{IsDivided}
use Rattle.hp_module.proofs.VectorSums.{term_setting, terms-values, terms-zero}
use Rattle.hp_module.proofs.VectorCoefficients.{all-terms, at-term, coefficient-ext, coefficient-plus, coefficient-plus_term, coefficient-value, coefficient-zero, combination-vector, plus_term-all, plus_term-vector, within, zero-vector}
use Rattle.hp_module.proofs.GreatestTerms.{greatest-at, zero_or_greatest}
use Rattle.hp_module.proofs.OrderedTerms.{degree-times}
use Rattle.hp_module.proofs.EntryTerms.{terms_each}
use Rattle.hp_module.proofs.Symbols.{generated-member, generated-multiple, generated-plus}
use Rattle.hp_module.proofs.Criterion.{IsLower, lead_of, pair_symbol, pair_symbol-in, top-in}
use Rattle.hp_module.proofs.GroebnerLaw.{IsPairRelation}
use Rattle.hp_module.proofs.GroebnerBases.{remainder_zero}
use Rattle.hp_module.proofs.PairRelations.{IsPair as IsBalanced, pair-at, pair-degree, pair-low, pair-vector, pair_relation}
use Rattle.hp_syzygy.specs.ChainOrders.{chain_order}
use Rattle.hp_syzygy.specs.VariableTests.{negated_firsts}
use Rattle.hp_syzygy.specs.FrameLevels.{IsLevel, IsPair, IsRelationOf, Level, level_lead, level_module, level_width, pair_lead, with_leads}
use Rattle.hp_syzygy.proofs.FirstExponents.{drop-first, first-cofactor, first-drop}
use Rattle.hp_syzygy.proofs.FirstQuotients.{first_quotients, image-first}
use Rattle.hp_syzygy.proofs.NegatedFirsts.{first_symbols, is_first, negated-at, negated-vector, total-first}
use Rattle.hp_syzygy.proofs.NextChains.{lead-within}
use Rattle.hp_syzygy.proofs.LevelDegrees.{pair-most}

module _ {F : Type 0} {ring : RingOf F} {inverse : F → F} {v : Level F} (is : IsLevel ring inverse v) where
  abbrev laws : IsRing ring
  laws = is.module_laws.field.is_ring

  abbrev comm : IsCommutative ring
  comm = is.module_laws.field.commutes

  abbrev M : FreeModule F
  M = level_module ring inverse v

  abbrev L : IsFreeModule (level_module ring inverse v)
  L = is.module_laws

  abbrev s : WithLeads F
  s = with_leads v

  abbrev n : ℕ
  n = length v.members

  abbrev width : ℕ
  width = level_width v

  abbrev l : ℕ
  l = v.chain.width

  abbrev 1ₖ : F
  1ₖ = ring.one

  abbrev -1ₖ : F
  -1ₖ = ring.neg ring.one

  minus_value : ring.IsValue (ring.neg ring.one)
  minus_value = laws.neg_value ring.one laws.one_value

  -- the members have only the first variables
  member-first : (i : ℕ) → i < length v.members → All (λ t. is_first l t.0 ≡ true) (terms (slice_index_or v.members i []))
  member-first i h =
      let g = slice_index_or v.members i [] in
      let f = is.variables i [] h in
      Rattle.hp_module.proofs.EntryTerms.terms_all (λ (t : Term × F). is_first l t.0 ≡ true) 1 g
      (λ j k d e m. first-drop l _ ((f.1 j [] k).1 d e m))

  lead-first : (i : ℕ) → i < length v.members → is_first l (level_lead v i) ≡ true
  lead-first i h =
      All-contains (λ (t : Term × F). is_first l t.0 ≡ true) (terms (slice_index_or v.members i [])) (level_lead v i, ring.one) (member-first i h) (is.monic i h).occurs

  module _ {ranks : List ℕ} {a b : ℕ} (pair : IsPair v.leads ranks a b) where
    -- the places from 1: the earlier and the later one
    abbrev j : ℕ
    j = suc a

    abbrev i : ℕ
    i = suc b

    back_j : suc a - 1 ≡ a
    back_j = omega arith

    back_i : suc b - 1 ≡ b
    back_i = omega arith

    a_in : a < length v.members
    a_in = let h = pair.earlier in omega (arith, h, is.led.same_length)

    b_in : b < length v.members
    b_in = let h = pair.later in omega (arith, h, is.led.same_length)

    j_low : 1 ≤ suc a
    j_low = omega arith

    i_low : 1 ≤ suc b
    i_low = omega arith

    j_high : suc a ≤ length v.members
    j_high = omega (arith, a_in)

    i_high : suc b ≤ length v.members
    i_high = omega (arith, b_in)

    lead-one : (c : ℕ) → c - 1 < length v.members → coefficient_at ring (member_at s (c - 1)) (lead_of L is.led c) ≡ ring.one
    lead-one c h = (greatest-at L (member_at s (c - 1)) (lead_of L is.led c) ring.one (is.led.vectors (c - 1) [] h) (is.monic (c - 1) h)).1

    balanced : IsBalanced L is.led (suc a) (suc b) ring.one ring.one
    balanced = record {
      j_low = j_low;
      j_high = j_high;
      i_low = i_low;
      i_high = i_high;
      same_comp = ap (λ k. (level_lead v k).comp) back_j ∙ pair.same_comp ∙ ap (λ k. (level_lead v k).comp) (sym back_i);
      a_value = laws.one_value;
      b_value = laws.one_value;
      a_nonzero = L.field.one_zero;
      balanced = ap (ring.mul ring.one) (lead-one i (omega (arith, b_in)) ∙ sym (lead-one j (omega (arith, a_in))));
    }

    abbrev up : Term
    up = pair_symbol L is.led (suc b) (suc a)

    abbrev down : Term
    down = pair_symbol L is.led (suc a) (suc b)

    abbrev V : Vector F
    V = pair_vector ring s (suc a - 1) (suc b - 1) ring.one ring.one

    V-is : V ≡ pair_vector ring s a b ring.one ring.one
    V-is = λ k. pair_vector ring s (back_j k) (back_i k) ring.one ring.one

    up-is : up ≡ pair_lead v.leads b a
    up-is = λ k. record { mono = cofactor (level_lead v (back_i k)).mono (level_lead v (back_j k)).mono; comp = suc b }

    down-is : down ≡ pair_lead v.leads a b
    down-is = λ k. record { mono = cofactor (level_lead v (back_j k)).mono (level_lead v (back_i k)).mono; comp = suc a }

    V-vector : IsVector ring width V
    V-vector = pair-vector L is.led balanced

    up-in : IsTermWithin (length v.members) up
    up-in = pair_symbol-in L is.led (suc b) (suc a) i_low i_high j_low j_high

    down-in : IsTermWithin (length v.members) down
    down-in = pair_symbol-in L is.led (suc a) (suc b) j_low j_high i_low i_high

    -- ---- the difference

    pub difference-vector : IsVector ring (level_width v) (pair_vector ring (with_leads v) a b ring.one ring.one)
    difference-vector = subst (IsVector ring width) V-is V-vector

    pub difference-degree : (d : ℕ) × (d ≤ max_degree) × IsGraded v.degrees d (pair_vector ring (with_leads v) a b ring.one ring.one)
    difference-degree =
        let d = degree_of M (lead_times s up) in
        let top : d ≡ _ = degree-times M up.mono (level_lead v (suc b - 1)) up-in.0 (lead-within is (suc b - 1) (omega (arith, b_in))).0 in
        let most = pair-most is (suc b - 1) (suc a - 1) (omega (arith, b_in)) (omega (arith, a_in)) balanced.same_comp in
        (d, omega (arith, top, most), subst (IsGraded v.degrees d) V-is (pair-degree L is.led balanced))

    V-generated : IsGenerated ring width v.members V
    V-generated =
        let gi = generated-member laws comm width v.members is.led.vectors (suc b - 1) (omega (arith, b_in)) in
        let gj = generated-member laws comm width v.members is.led.vectors (suc a - 1) (omega (arith, a_in)) in
        generated-plus laws comm width v.members is.led.vectors _ _
        (generated-multiple laws comm width v.members is.led.vectors ring.one up.mono _ laws.one_value up-in.0 gi)
        (generated-multiple laws comm width v.members is.led.vectors (ring.neg ring.one) down.mono _ minus_value down-in.0 gj)

    up-first : is_first l up ≡ true
    up-first = first-cofactor l _ _ (lead-within is (suc b - 1) (omega (arith, b_in))).0 (lead-within is (suc a - 1) (omega (arith, a_in))).0
        (lead-first (suc b - 1) (omega (arith, b_in))) (lead-first (suc a - 1) (omega (arith, a_in)))

    down-first : is_first l down ≡ true
    down-first = first-cofactor l _ _ (lead-within is (suc a - 1) (omega (arith, a_in))).0 (lead-within is (suc b - 1) (omega (arith, b_in))).0
        (lead-first (suc a - 1) (omega (arith, a_in))) (lead-first (suc b - 1) (omega (arith, b_in)))

    -- it has no terms in other variables
    V-outside : (x : Term) → is_first l x ≡ false → coefficient_at ring V x ≡ ring.zero
    V-outside x e =
        let apart : (t : Term) → is_first l t ≡ true → is_first l x ≢ is_first l t = λ t f q. let z : false ≡ true = sym e ∙ q ∙ f in absurd (cc) in
        let zi = image-first laws comm l width v.members is.led.vectors member-first x up up-in (apart up up-first) in
        let zj = image-first laws comm l width v.members is.led.vectors member-first x down down-in (apart down down-first) in
        pair-at L is.led balanced x ∙ (λ k. ring.add (ring.mul ring.one (zi k)) (ring.mul (ring.neg ring.one) (zj k)))
        ∙ (λ k. ring.add (mul_zero laws ring.one laws.one_value k) (mul_zero laws (ring.neg ring.one) minus_value k)) ∙ laws.add_zero ring.zero laws.zero_value

    -- ---- the division

    module _ {qs r : Vector F} (division : IsDivided (level_module ring inverse v) V (with_leads v) qs r) where
      no_rest : r ≡ zero_vector ring width
      no_rest = remainder_zero L is.led is.groebner V-generated division

      sum : V ≡ combination ring width qs v.members
      sum =
          let cv = combination-vector laws comm width qs v.members division.quotients.1 is.led.vectors in
          let zv = zero-vector laws comm width in
          coefficient-ext laws comm width V _ V-vector cv (λ x.
          ap (λ w. coefficient_at ring w x) (division.sum ∙ ap (λ w. vector_plus ring (combination ring width qs v.members) w) no_rest)
          ∙ coefficient-plus laws comm width _ _ x cv zv
          ∙ ap (ring.add (coefficient_at ring (combination ring width qs v.members) x)) (coefficient-zero laws comm width x)
          ∙ laws.add_zero _ (coefficient-value laws comm width _ x cv))

      -- the symbols of the quotients are lower than the pair's
      abbrev Low : Term → Type 0
      Low t = (degree_of M (lead_times s t) ≡ degree_of M (lead_times s up)) × (chain_order v.chain (lead_times s t) (lead_times s up) ≡ Less)

      chain : (t u : Term) → IsTermWithin width t → IsTermWithin width u → chain_order v.chain t u ≢ Greater
          → chain_order v.chain u (lead_times s up) ≡ Less → chain_order v.chain t (lead_times s up) ≡ Less
      chain t u ht hu nt e =
          let order = L.order in
          let top = top-in L is.led up up-in in
          elim (chain_order v.chain t u) as (λ z. chain_order v.chain t u ≡ z → chain_order v.chain t (lead_times s up) ≡ Less) [
            | Less ↦ λ q. order.transitive t u (lead_times s up) ht hu top q e
            | Equal ↦ λ q. ap (λ w. chain_order v.chain w (lead_times s up)) (order.same t u ht hu q) ∙ e
            | Greater ↦ λ q. absurd (nt q)
          ] refl

      quotients-low : All (λ t. (degree_of (level_module ring inverse v) (lead_times (with_leads v) t.0) ≡ degree_of (level_module ring inverse v) (lead_times (with_leads v) up))
          × (chain_order v.chain (lead_times (with_leads v) t.0) (lead_times (with_leads v) up) ≡ Less)) (terms qs)
      quotients-low =
          let qw = within laws comm n qs division.quotients in
          let degrees = division.degrees (degree_of M (lead_times s up)) (pair-degree L is.led balanced) in
          let Less' : Term × F → Type 0 = λ t. chain_order v.chain (lead_times s t.0) (lead_times s up) ≡ Less in
          let below : All Less' (terms qs) = elim (zero_or_greatest L V V-vector) [
            | inl e ↦ subst (All Less') (sym (ap terms (division.of_zero e).0 ∙ terms-zero ring 1 n)) (All-nil Less')
            | inr g ↦
                let top = greatest-at L V g.0 g.1 V-vector g.2 in
                let low = All-contains (λ (t : Term × F). chain_order v.chain t.0 (lead_times s up) ≡ Less) (terms V) (g.0, g.1) (pair-low L is.led balanced) g.2.occurs in
                λ k y m. chain _ g.0 (top-in L is.led _ (qw k y m)) top.0 (division.not_above g.0 g.1 g.2 k y m) low
          ] in
          λ k y m. (degrees k y m, below k y m)

      -- ---- the relation

      first : (ps : Vector F) × IsVector ring n ps × (V ≡ combination ring width ps v.members)
          × ((x : Term) → coefficient_at ring ps x ≡ total as_listed ring (first_symbols l (terms qs)) x)
      first = first_quotients laws comm l width v.members is.led.vectors member-first V qs V-vector division.quotients sum V-outside

      ps-kept : (x : Term) → coefficient_at ring first.0 x ≢ ring.zero → (is_first l x ≡ true) × (coefficient_at ring qs x ≢ ring.zero)
      ps-kept x nz =
          let e = first.3 x ∙ total-first laws comm l (terms qs) x in
          elim (is_first l x) as (λ z. is_first l x ≡ z → (is_first l x ≡ true) × (coefficient_at ring qs x ≢ ring.zero)) [
            | true ↦ λ p. (p, λ q. nz (e ∙ ap (λ z. cond z (coefficient_at ring qs x) ring.zero) p ∙ q))
            | false ↦ λ p. absurd (nz (e ∙ ap (λ z. cond z (coefficient_at ring qs x) ring.zero) p))
          ] refl

      ps-low : All (λ t. (degree_of (level_module ring inverse v) (lead_times (with_leads v) t.0) ≡ degree_of (level_module ring inverse v) (lead_times (with_leads v) up))
          × (chain_order v.chain (lead_times (with_leads v) t.0) (lead_times (with_leads v) up) ≡ Less)) (terms first.0)
      ps-low = all-terms laws comm n first.0 Low first.1 (λ x hx nz. at-term laws comm n qs Low x division.quotients quotients-low (ps-kept x nz).1)

      negs : Vector F
      negs = negated_firsts ring l qs

      negs-vector : IsVector ring n (negated_firsts ring l qs)
      negs-vector = negated-vector laws comm l n qs division.quotients

      negs-at : (x : Term) → coefficient_at ring (negated_firsts ring l qs) x ≡ total as_listed ring (scaled ring (ring.neg ring.one) (terms first.0)) x
      negs-at x =
          negated-at laws comm l n qs x division.quotients ∙ ap (ring.mul (ring.neg ring.one)) (sym (first.3 x))
          ∙ sym (total-scaled (term_setting laws comm) (ring.neg ring.one) (terms first.0) x minus_value (terms-values laws comm 1 first.0 first.1.1))

      abbrev half : Vector F
      half = plus_term ring (negated_firsts ring l qs) down (ring.neg ring.one)

      abbrev whole : Vector F
      whole = plus_term ring half up ring.one

      half-vector : IsVector ring n half
      half-vector = plus_term-vector laws comm n (negated_firsts ring l qs) down (ring.neg ring.one) negs-vector down-in minus_value

      whole-vector : IsVector ring n whole
      whole-vector = plus_term-vector laws comm n half up ring.one half-vector up-in laws.one_value

      whole-at : (x : Term) → coefficient_at ring whole x
          ≡ total as_listed ring ((up, ring.one) ∷ (down, ring.neg ring.one) ∷ scaled ring (ring.neg ring.one) (terms first.0)) x
      whole-at x =
          coefficient-plus_term laws comm n half up ring.one x half-vector up-in laws.one_value
          ∙ ap (λ c. cond (eq_by_cmp as_listed x up) (ring.add c ring.one) c)
          (coefficient-plus_term laws comm n (negated_firsts ring l qs) down (ring.neg ring.one) x negs-vector down-in minus_value
          ∙ ap (λ c. cond (eq_by_cmp as_listed x down) (ring.add c (ring.neg ring.one)) c) (negs-at x))

      whole-first : All (λ t. is_first l t.0 ≡ true) (terms whole)
      whole-first =
          let F' : Term → Type 0 = λ t. is_first l t ≡ true in
          let negs-first : All (λ (t : Term × F). is_first l t.0 ≡ true) (terms (negated_firsts ring l qs)) =
          all-terms laws comm n (negated_firsts ring l qs) F' negs-vector (λ x hx nz.
          let P : (z : F) → z ≡ ring.zero → ring.mul (ring.neg ring.one) z ≡ ring.zero = λ z e. ap (ring.mul (ring.neg ring.one)) e ∙ mul_zero laws (ring.neg ring.one) minus_value in
          (ps-kept x (λ z. nz (negated-at laws comm l n qs x division.quotients ∙ P _ (sym (first.3 x) ∙ z)))).0) in
          plus_term-all laws comm n F' half up ring.one half-vector up-in laws.one_value up-first
          (plus_term-all laws comm n F' (negated_firsts ring l qs) down (ring.neg ring.one) negs-vector down-in minus_value down-first negs-first)

      in-variables : IsVectorInVariables ring l n whole
      in-variables = (
        whole-vector.0,
        λ k d m.
            let each = terms_each (λ (t : Term × F). is_first l t.0 ≡ true) 1 whole whole-first k m in
            subst (IsInVariables ring l) (Rattle.std.proofs.lemmas.List.get_or_default whole k [] d m)
            (whole-vector.1 k [] m, λ e y z. drop-first l _ (each e y z)),
      )

      made : (rel : Vector F) × Rattle.hp_module.proofs.PairRelations.IsRelationOf L is.led balanced first.0 rel
      made = pair_relation L is.led balanced first.0 first.1 first.2 ps-low

      same-made : whole ≡ made.0
      same-made = coefficient-ext laws comm n whole made.0 whole-vector made.1.vector (λ x. whole-at x ∙ sym (made.1.same x))

      relation : IsPairRelation L is.led (suc a) (suc b) whole
      relation = record {
        first = ring.one;
        second = ring.neg ring.one;
        first_value = laws.one_value;
        second_value = minus_value;
        first_nonzero = L.field.one_zero;
        rest = scaled ring (ring.neg ring.one) (terms first.0);
        rest_values = scaled-values (term_setting laws comm) (ring.neg ring.one) (terms first.0) minus_value (terms-values laws comm 1 first.0 first.1.1);
        lower = All-map (λ (t : Term × F). IsLower L is.led (suc a) (suc b) t.0) (λ t. (t.0, ring.mul (ring.neg ring.one) t.1)) (terms first.0)
            (λ k d m. (within laws comm n first.0 first.1 k d m, (ps-low k d m).0, (ps-low k d m).1));
        same = whole-at;
      }

    -- The negatives of the quotients' terms in the first variables, with the two symbols of the pair, are its relation.
    pub relation_made : {qs r rel : Vector F}
        → IsDivided (level_module ring inverse v) (pair_vector ring (with_leads v) a b ring.one ring.one) (with_leads v) qs r
        → rel ≡ plus_term ring (plus_term ring (negated_firsts ring v.chain.width qs) (pair_lead v.leads a b) (ring.neg ring.one)) (pair_lead v.leads b a) ring.one
        → IsRelationOf ring inverse is (pair_lead v.leads b a, a) rel
    unfolding relation
    relation_made {qs} {r} {rel} d e =
        let division = subst (λ w. IsDivided (level_module ring inverse v) w (with_leads v) qs r) (sym V-is) d in
        let same : whole division ≡ rel =
        (λ k. plus_term ring (plus_term ring (negated_firsts ring l qs) (down-is k) (ring.neg ring.one)) (up-is k) ring.one) ∙ sym e in
        subst (IsRelationOf ring inverse is (pair_lead v.leads b a, a)) same (record {
          variables = in-variables division;
          zero = ap (λ w. combination ring width w v.members) (same-made division) ∙ (made division).1.zero;
          relation = relation division;
          monic = refl;
        })
