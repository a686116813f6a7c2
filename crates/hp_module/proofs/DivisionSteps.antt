-- The steps of a division: its start, a multiple of a member that is taken away, a lead that goes to the remainder, and its end.
use Rattle.std.specs.Prelude.{◌≡◌, ◌≢◌, ℕ, ◌+◌, ◌-◌, ◌<◌, ◌≤◌, Bool, true, false, cond, [], length, All, slice_index_or}
use Rattle.std.specs.declared.cmp.Ordering.TheVariants.{Less, Equal, Greater}
use Rattle.std.specs.Ordering.{eq_by_cmp}
use Rattle.std.proofs.lemmas.List.Elements.{All-nil, All-contains, All-map, All-weaker}
use mathlib.Core.Path.{refl, sym, ap, ◌∙◌, subst}
use native.Mathlib.Omega.{arith}
use Rattle.hp_algebra.specs.Ring.{IsRing, IsCommutative}
use Rattle.hp_algebra.proofs.Rings.{add_swap, mul_zero, zero_add, neg_mul}
use Rattle.hp_mono.specs.declared.term.Term.{Term}
use Rattle.hp_mono.specs.Monomials.{Monomial, IsMonomial, degree}
use Rattle.hp_mono.specs.TermOrders.{IsTermOrder, IsTermWithin, TermDivides, times}
use Rattle.hp_sums.specs.FiniteSums.{total}
use Rattle.hp_sums.proofs.SumSetting.{SumSetting}
use Rattle.hp_sums.proofs.Collected.{tie, total-value}
use Rattle.hp_sums.proofs.EqualTotals.{eq-itself, total-absent}
use Rattle.hp_poly.specs.Polynomials.{term_poly}
use Rattle.hp_module.specs.Vectors.{Vector, IsVector, zero_vector, vector_plus, vector_scale, combination}
use Rattle.hp_module.specs.FreeModules.{FreeModule, IsFreeModule, IsIn, HasDegree, as_listed, coefficient_at, degree_of, terms}
use Rattle.hp_module.specs.Leads.{AreLed, IsGreatestTerm, WithLeads, lead_at, lead_times, member_at}
use Rattle.hp_module.specs.Divisions.{HasNoDivisor, IsDivided, IsMoved, IsSubtracted, IsUnder, IsUnderway, height, peak}
use Rattle.hp_module.proofs.VectorSums.{as_listed_same, shifted, shifted-values, term_setting, terms-values, terms-zero}
use Rattle.hp_module.proofs.VectorCoefficients.{all-terms, at-term, coefficient-ext, coefficient-multiple, coefficient-plus, coefficient-plus_term, coefficient-value, coefficient-zero, combination-plus_term, combination-vector, family, image, image-value, family-values, multiple-vector, plus-vector, plus_term-all, plus_term-vector, within, zero-vector}
use Rattle.hp_module.proofs.GreatestTerms.{greatest-above, greatest-at, greatest-degree, greatest-nonzero}
use Rattle.hp_module.proofs.OrderedTerms.{degree-times, height-less, less-back, less-not_greater, not_less-back, peak-above, peak-most, times-not_less}
use Rattle.hp_module.proofs.ShiftedTerms.{total-times}

module _ {F : Type 0} {M : FreeModule F} (L : IsFreeModule M) where
  open M use {ring, width, cmp}

  abbrev laws : IsRing ring
  laws = L.field.is_ring

  abbrev comm : IsCommutative ring
  comm = L.field.commutes

  abbrev order : IsTermOrder width cmp
  order = L.order

  abbrev T : SumSetting Term F
  T = term_setting laws comm

  abbrev co : Vector F → Term → F
  co v b = coefficient_at ring v b

  -- the coefficient at b of m times the vector
  abbrev pub at_multiple : Monomial → Vector F → Term → F
  at_multiple m g b = total as_listed ring (shifted m (terms g)) b

  -- ---- a multiple of a vector

  module _ (g : Vector F) (s : Term) (c : F) (m : Monomial) (hg : IsIn M g) (lead : IsGreatestTerm cmp g s c)
      (im : IsMonomial m) where
    g_within : All (λ y. IsTermWithin width y.0) (terms g)
    g_within = within laws comm width g hg

    g_at : IsTermWithin width s × (coefficient_at ring g s ≡ c) × (c ≢ ring.zero)
    g_at = greatest-at L g s c hg lead

    pub multiple-value : (b : Term) → ring.IsValue (at_multiple m g b)
    multiple-value b = total-value T (shifted m (terms g)) b (shifted-values laws comm m (terms g) (terms-values laws comm 1 g hg.1))

    -- at the multiple of the lead
    pub multiple-lead : at_multiple m g (times m s) ≡ c
    multiple-lead =
        total-times laws comm m (terms g) s im g_at.0.0
        (All-weaker (λ (y : Term × F). IsTermWithin width y.0) (λ y. IsMonomial y.0.mono) (λ y h. h.0) (terms g) g_within) ∙ g_at.1

    absent : (b : Term) → ((u : Term) → IsTermWithin width u → cmp s u ≢ Less → b ≢ times m u)
        → at_multiple m g b ≡ ring.zero
    absent b f =
        total-absent T (shifted m (terms g)) b (All-map (λ (y : Term × F). b ≢ y.0) (λ y. (times m y.0, y.1)) (terms g)
        (λ i z n. f (slice_index_or (terms g) i z).0 (g_within i z n) (lead.greatest i z n)))

    -- there is no term above it
    pub multiple-above : (b : Term) → cmp (times m s) b ≡ Less → at_multiple m g b ≡ ring.zero
    multiple-above b l =
        absent b (λ u hu n e. times-not_less order m s u im g_at.0 hu n (ap (cmp (times m s)) (sym e) ∙ l))

    -- nor one of another degree
    pub multiple-other : (e : ℕ) → HasDegree M e g → (b : Term) → degree_of M b ≢ degree m + e
        → at_multiple m g b ≡ ring.zero
    multiple-other e h b n =
        total-absent T (shifted m (terms g)) b (All-map (λ (y : Term × F). b ≢ y.0) (λ y. (times m y.0, y.1)) (terms g)
        (λ i z l p. n (ap (degree_of M) p ∙ degree-times M m _ im (g_within i z l).0 ∙ ap (λ k. degree m + k) (h i z l))))

  -- ---- what is left when a multiple is taken away

  module _ (v g : Vector F) (d : ℕ) (t s : Term) (x c f : F) (m : Monomial) (hv : IsIn M v) (hg : IsIn M g)
      (hd : HasDegree M d v) (he : HasDegree M (degree_of M s) g) (top : IsGreatestTerm cmp v t x)
      (lead : IsGreatestTerm cmp g s c) (im : IsMonomial m) (is_t : times m s ≡ t) (vf : ring.IsValue f) (is_x : ring.mul f c ≡ x) where
    abbrev left : Vector F
    left = vector_plus ring v (vector_scale ring (term_poly ring (ring.neg f) m) g)

    vn : ring.IsValue (ring.neg f)
    vn = laws.neg_value f vf

    multiple_in : IsIn M (vector_scale ring (term_poly ring (ring.neg f) m) g)
    multiple_in = multiple-vector laws comm width (ring.neg f) m g vn im hg

    pub left-vector : IsIn M left
    left-vector = plus-vector laws comm width v _ hv multiple_in

    abbrev S : Term → F
    S b = at_multiple m g b

    pub left-at : (b : Term)
        → coefficient_at ring left b ≡ ring.add (coefficient_at ring v b) (ring.mul (ring.neg f) (at_multiple m g b))
    left-at b =
        coefficient-plus laws comm width v _ b hv multiple_in
        ∙ ap (ring.add (co v b)) (coefficient-multiple laws comm width (ring.neg f) m g b vn im hg)

    t_at : IsTermWithin width t × (coefficient_at ring v t ≡ x) × (x ≢ ring.zero)
    t_at = greatest-at L v t x hv top

    s_at : IsTermWithin width s × (coefficient_at ring g s ≡ c) × (c ≢ ring.zero)
    s_at = greatest-at L g s c hg lead

    -- the lead is gone
    left-lead : co left t ≡ ring.zero
    left-lead =
        let vc = subst ring.IsValue s_at.1 (coefficient-value laws comm width g s hg) in
        let vx = subst ring.IsValue t_at.1 (coefficient-value laws comm width v t hv) in
        let shifted_lead : S t ≡ c = ap S (sym is_t) ∙ multiple-lead g s c m hg lead im in
        left-at t ∙ (λ i. ring.add (t_at.1 i) (ring.mul (ring.neg f) (shifted_lead i)))
        ∙ ap (ring.add x) (neg_mul laws f c vf vc ∙ ap ring.neg is_x) ∙ laws.add_neg x vx

    -- where the multiple has no term, the coefficient stays
    same_at : (b : Term) → S b ≡ ring.zero → co left b ≡ co v b
    same_at b z =
        left-at b ∙ ap (λ u. ring.add (co v b) (ring.mul (ring.neg f) u)) z ∙ ap (ring.add (co v b)) (mul_zero laws (ring.neg f) vn)
        ∙ laws.add_zero (co v b) (coefficient-value laws comm width v b hv)

    -- what is left is below the lead
    pub left-below : All (λ y. cmp y.0 t ≡ Less) (terms left)
    left-below = all-terms laws comm width left (λ b. cmp b t ≡ Less) left-vector (λ b hb n.
        elim (cmp b t) as (λ r. cmp b t ≡ r → cmp b t ≡ Less) [
          | Less ↦ λ p. p
          | Equal ↦ λ p. absurd (n (ap (co left) (order.same b t hb t_at.0 p) ∙ left-lead))
          | Greater ↦ λ p.
              let l = less-back order b t hb t_at.0 p in
              let z = multiple-above g s c m hg lead im b (ap (λ u. cmp u b) is_t ∙ l) in
              absurd (greatest-above L v t x hv top b (λ y. n (same_at b z ∙ y)) l)
        ] refl)

    -- and has its degree
    pub left-degree : HasDegree M d left
    left-degree = all-terms laws comm width left (λ b. degree_of M b ≡ d) left-vector (λ b hb n.
        elim (Rattle.std.proofs.lemmas.Bool.cases_eq (degree_of M b) d) [
          | mathlib.Core.Logic.inl e ↦ e
          | mathlib.Core.Logic.inr o ↦
              let same : degree m + degree_of M s ≡ d =
              sym (degree-times M m s im s_at.0.0) ∙ ap (degree_of M) is_t ∙ greatest-degree L v t x d top hd in
              let z = multiple-other g s c m hg lead im (degree_of M s) he b (λ e. o (e ∙ same)) in
              absurd (o (at-term laws comm width v (λ u. degree_of M u ≡ d) b hv hd (λ y. n (same_at b z ∙ y))))
        ])

  -- ---- the loop

  module _ {s : WithLeads F} (led : AreLed M s) {v : Vector F} (hv : IsIn M v) where
    -- a term below one that is under the lead of v, of its degree
    under-below : (b t : Term) → IsTermWithin width b → IsTermWithin width t → IsUnder M v t → cmp b t ≡ Less
        → degree_of M b ≡ degree_of M t → IsUnder M v b
    under-below b t hb ht u l e = (
      λ t0 c g p.
          let x = less-not_greater order b t t0 hb ht (greatest-at L v t0 c hv g).0 l (u.0 t0 c g) in
          absurd (cc),
      λ n a. e ∙ u.1 n a,
    )

    pub divide_begin : {qs out : Vector F} → qs ≡ zero_vector ring (length s.members) → out ≡ zero_vector ring width
        → IsUnderway M s v v qs out
    divide_begin {qs} {out} eq eo =
        let no_qs : terms qs ≡ [] = ap terms eq ∙ terms-zero ring 1 (length s.members) in
        let no_out : terms out ≡ [] = ap terms eo ∙ terms-zero ring 1 width in
        let Q : Term × F → Type 0 = λ a. IsUnder M v (lead_times s a.0) in
        let U : Term × F → Type 0 = λ a. IsUnder M v a.0 in
        let hz = zero-vector laws comm (length s.members) in
        let comb_zero : (b : Term) → co (combination ring width qs s.members) b ≡ ring.zero =
        λ b. ap (λ w. co (combination ring width w s.members) b) eq
        ∙ Rattle.hp_module.proofs.VectorCoefficients.coefficient-combination laws comm width (zero_vector ring (length s.members)) s.members hz led.vectors b
        ∙ ap (λ xs. Rattle.hp_sums.proofs.WeightedSums.weighted ring (image laws comm (family laws comm s.members) b) xs) (terms-zero ring 1 (length s.members)) in
        record {
          rest_vector = hv;
          out_vector = subst (IsIn M) (sym eo) (zero-vector laws comm width);
          qs_vector = subst (IsVector ring (length s.members)) (sym eq) hz;
          sum = λ b.
              let out_zero : co out b ≡ ring.zero = ap (λ w. co w b) eo ∙ coefficient-zero laws comm width b in
              let vb = coefficient-value laws comm width v b hv in
              sym ((λ n. ring.add (comb_zero b n) (ring.add (co v b) (out_zero n)))
              ∙ ap (ring.add ring.zero) (laws.add_zero (co v b) vb) ∙ zero_add laws (co v b) vb);
          rest_under = all-terms laws comm width v (IsUnder M v) hv (λ b hb n. (
            λ t c g. not_less-back order t b (greatest-at L v t c hv g).0 hb (greatest-above L v t c hv g b n),
            λ m a. at-term laws comm width v (λ u. degree_of M u ≡ m) b hv a n,
          ));
          out_under = subst (All U) (sym no_out) (All-nil U);
          qs_under = subst (All Q) (sym no_qs) (All-nil Q);
          free = λ i u l. subst (All (λ a. ¬ (TermDivides (slice_index_or s.leads i u) a.0))) (sym no_out)
              (All-nil (λ (a : Term × F). ¬ (TermDivides (slice_index_or s.leads i u) a.0)));
          zero = λ z. (z, eq, eo);
        }

    module _ (d : ℕ) (hd : HasDegree M d v) {rest qs out : Vector F} (u : IsUnderway M s v rest qs out) where
      rest_degree : HasDegree M d rest
      rest_degree =
          All-weaker (λ (y : Term × F). IsUnder M v y.0) (λ y. degree_of M y.0 ≡ d) (λ y p. p.1 d hd) (terms rest) u.rest_under

      module _ {t : Term} {x : F} (top : IsGreatestTerm cmp rest t x) where
        t_in : IsTermWithin width t
        t_in = (greatest-at L rest t x u.rest_vector top).0

        t_degree : degree_of M t ≡ d
        t_degree = greatest-degree L rest t x d top rest_degree

        t_under : IsUnder M v t
        t_under = All-contains (λ (y : Term × F). IsUnder M v y.0) (terms rest) (t, x) u.rest_under top.occurs

      module _ {t : Term} {x : F} (top : IsGreatestTerm cmp rest t x) (rest' : Vector F) (new_in : IsIn M rest')
          (new_below : All (λ y. cmp y.0 t ≡ Less) (terms rest')) (new_degree : HasDegree M d rest') where
        falls : peak M (terms rest') < peak M (terms rest)
        falls =
            let most = peak-most M (terms rest') (height M t) (λ i y l.
            height-less M L (slice_index_or (terms rest') i y).0 t (within laws comm width rest' new_in i y l) (t_in top)
            (new_degree i y l ∙ sym (t_degree top)) (new_below i y l)) in
            let above = All-contains (λ (y : Term × F). height M y.0 < peak M (terms rest)) (terms rest) (t, x) (peak-above M (terms rest)) top.occurs in
            between (peak M (terms rest')) (height M t) (peak M (terms rest)) most above
          where
            between : (a b c : ℕ) → a ≤ b → b < c → a < c
            between a b c p q = omega arith

        all_under : All (λ y. IsUnder M v y.0) (terms rest')
        all_under = λ i y l. under-below (slice_index_or (terms rest') i y).0 t (within laws comm width rest' new_in i y l) (t_in top) (t_under top)
            (new_below i y l) (new_degree i y l ∙ sym (t_degree top))

      -- ---- a multiple of a member is taken away

      module _ {j : ℕ} {t : Term} {rest' qs' : Vector F} (lj : j < length s.members)
          (p : IsSubtracted M s j t rest qs rest' qs') where
        abbrev g : Vector F
        g = member_at s j

        hg : IsIn M g
        hg = led.vectors j [] lj

        new_in : IsIn M rest'
        new_in = subst (IsIn M) (sym p.rest_is) (left-vector rest g d t (lead_at s j) p.first p.member_first p.factor p.mono u.rest_vector hg rest_degree (led.homogeneous j lj)
            p.rest_first p.member_lead p.is_mono p.is_lead p.factor_value p.factor_is)

        new_below : All (λ y. cmp y.0 t ≡ Less) (terms rest')
        new_below = subst (λ w. All (λ y. cmp y.0 t ≡ Less) (terms w)) (sym p.rest_is) (left-below rest g d t (lead_at s j) p.first p.member_first p.factor p.mono u.rest_vector hg rest_degree (led.homogeneous j lj)
            p.rest_first p.member_lead p.is_mono p.is_lead p.factor_value p.factor_is)

        new_degree : HasDegree M d rest'
        new_degree = subst (HasDegree M d) (sym p.rest_is) (left-degree rest g d t (lead_at s j) p.first p.member_first p.factor p.mono u.rest_vector hg rest_degree (led.homogeneous j lj)
            p.rest_first p.member_lead p.is_mono p.is_lead p.factor_value p.factor_is)

        new_at : (b : Term) → co rest' b ≡ ring.add (co rest b) (ring.mul (ring.neg p.factor) (at_multiple p.mono g b))
        new_at b = ap (λ w. co w b) p.rest_is ∙ left-at rest g d t (lead_at s j) p.first p.member_first p.factor p.mono u.rest_vector hg rest_degree (led.homogeneous j lj)
            p.rest_first p.member_lead p.is_mono p.is_lead p.factor_value p.factor_is b

        pub subtracted_falls : peak M (terms rest') < peak M (terms rest)
        subtracted_falls = falls p.rest_first rest' new_in new_below new_degree

        abbrev a : Term
        a = record { mono = p.mono; comp = j + 1 }

        a_in : IsTermWithin (length s.members) a
        a_in = (p.is_mono, omega arith, omega (arith, lj))

        back : (j + 1) - 1 ≡ j
        back = omega arith

        comb_at : (b : Term) → co (combination ring width qs' s.members) b
            ≡ ring.add (co (combination ring width qs s.members) b) (ring.mul p.factor (at_multiple p.mono g b))
        comb_at b =
            ap (λ w. co (combination ring width w s.members) b) p.quotients_are
            ∙ combination-plus_term laws comm width qs s.members a p.factor u.qs_vector led.vectors a_in p.factor_value b
            ∙ ap (λ k. ring.add (co (combination ring width qs s.members) b) (ring.mul p.factor (at_multiple p.mono (member_at s k) b))) back

        -- A + (R + O) = (A + f S) + ((R + -f S) + O)
        moved : (A R O f S : F) → ring.IsValue A → ring.IsValue R → ring.IsValue O → ring.IsValue f → ring.IsValue S
            → ring.add A (ring.add R O)
            ≡ ring.add (ring.add A (ring.mul f S)) (ring.add (ring.add R (ring.mul (ring.neg f) S)) O)
        moved A R O f S va vr vo vf vs =
            let x = laws.mul_value f S vf vs in
            let n = laws.neg_value f vf in
            let y = laws.mul_value (ring.neg f) S n vs in
            let z : ring.add (ring.mul f S) (ring.mul (ring.neg f) S) ≡ ring.zero =
            ap (ring.add (ring.mul f S)) (neg_mul laws f S vf vs) ∙ laws.add_neg (ring.mul f S) x in
            let ry = laws.add_value R _ vr y in
            sym (laws.add_assoc A _ _ va x (laws.add_value _ O ry vo)
            ∙ ap (ring.add A) (sym (laws.add_assoc _ _ O x ry vo)
            ∙ ap (λ w. ring.add w O) (add_swap laws _ R _ x vr y ∙ ap (ring.add R) z ∙ laws.add_zero R vr)))

        pub subtract_step : IsUnderway M s v rest' qs' out
        subtract_step =
            let comb = combination-vector laws comm width qs s.members u.qs_vector.1 led.vectors in
            let top_under = t_under p.rest_first in
            let lead : lead_times s a ≡ t = ap (λ k. times p.mono (lead_at s k)) back ∙ p.is_lead in
            record {
              rest_vector = new_in;
              out_vector = u.out_vector;
              qs_vector = subst (IsVector ring (length s.members)) (sym p.quotients_are)
                  (plus_term-vector laws comm (length s.members) qs a p.factor u.qs_vector a_in p.factor_value);
              sum = λ b. u.sum b
                  ∙ moved _ _ _ p.factor (at_multiple p.mono g b) (coefficient-value laws comm width _ b comb) (coefficient-value laws comm width rest b u.rest_vector)
                  (coefficient-value laws comm width out b u.out_vector) p.factor_value
                  (multiple-value g (lead_at s j) p.member_first p.mono hg p.member_lead p.is_mono b)
                  ∙ (λ i. ring.add (sym (comb_at b) i) (ring.add (sym (new_at b) i) (co out b)));
              rest_under = all_under p.rest_first rest' new_in new_below new_degree;
              out_under = u.out_under;
              qs_under = subst (λ w. All (λ y. IsUnder M v (lead_times s y.0)) (terms w)) (sym p.quotients_are)
                  (plus_term-all laws comm (length s.members) (λ y. IsUnder M v (lead_times s y)) qs a p.factor u.qs_vector a_in p.factor_value
                  (subst (IsUnder M v) (sym lead) top_under) u.qs_under);
              free = u.free;
              zero = λ z. absurd (greatest-nonzero L rest t p.first u.rest_vector p.rest_first (u.zero z).0);
            }

      -- ---- the lead goes to the remainder

      module _ {t : Term} {rest' out' : Vector F} (p : IsMoved M t rest out rest' out') where
        at : IsTermWithin width t × (coefficient_at ring rest t ≡ p.first) × (p.first ≢ ring.zero)
        at = greatest-at L rest t p.first u.rest_vector p.rest_first

        vx : ring.IsValue p.first
        vx = subst ring.IsValue at.1 (coefficient-value laws comm width rest t u.rest_vector)

        neg_vx : ring.IsValue (ring.neg p.first)
        neg_vx = laws.neg_value p.first vx

        moved_in : IsIn M rest'
        moved_in = subst (IsIn M) (sym p.rest_is) (plus_term-vector laws comm width rest t (ring.neg p.first) u.rest_vector at.0 neg_vx)

        rest_at : (b : Term) → co rest' b
            ≡ cond (eq_by_cmp as_listed b t) (ring.add (co rest b) (ring.neg p.first)) (co rest b)
        rest_at b = ap (λ w. co w b) p.rest_is ∙ coefficient-plus_term laws comm width rest t (ring.neg p.first) b u.rest_vector at.0 neg_vx

        out_at : (b : Term) → co out' b ≡ cond (eq_by_cmp as_listed b t) (ring.add (co out b) p.first) (co out b)
        out_at b = ap (λ w. co w b) p.out_is ∙ coefficient-plus_term laws comm width out t p.first b u.out_vector at.0 vx

        gone : co rest' t ≡ ring.zero
        gone =
            rest_at t ∙ ap (λ z. cond z (ring.add (co rest t) (ring.neg p.first)) (co rest t)) (eq-itself T t)
            ∙ ap (λ w. ring.add w (ring.neg p.first)) at.1 ∙ laws.add_neg p.first vx

        -- a term that is left was there and is not the lead
        old_term : (b : Term) → co rest' b ≢ ring.zero → (co rest b ≢ ring.zero) × (b ≢ t)
        old_term b n =
            elim (eq_by_cmp as_listed b t) as (λ z. eq_by_cmp as_listed b t ≡ z → (co rest b ≢ ring.zero) × (b ≢ t)) [
              | true ↦ λ e. absurd (n (ap (co rest') (as_listed_same b t (tie (as_listed b t) e)) ∙ gone))
              | false ↦ λ e. (
                λ z. n (rest_at b ∙ ap (λ q. cond q (ring.add (co rest b) (ring.neg p.first)) (co rest b)) e ∙ z),
                λ q. n (ap (co rest') q ∙ gone),
              )
            ] refl

        moved_below : All (λ y. cmp y.0 t ≡ Less) (terms rest')
        moved_below = all-terms laws comm width rest' (λ b. cmp b t ≡ Less) moved_in (λ b hb n.
            let o = old_term b n in
            elim (cmp b t) as (λ r. cmp b t ≡ r → cmp b t ≡ Less) [
              | Less ↦ λ e. e
              | Equal ↦ λ e. absurd (o.1 (order.same b t hb at.0 e))
              | Greater ↦ λ e. absurd (greatest-above L rest t p.first u.rest_vector p.rest_first b o.0 (less-back order b t hb at.0 e))
            ] refl)

        moved_degree : HasDegree M d rest'
        moved_degree = all-terms laws comm width rest' (λ b. degree_of M b ≡ d) moved_in
            (λ b hb n. at-term laws comm width rest (λ c. degree_of M c ≡ d) b u.rest_vector rest_degree (old_term b n).0)

        pub moved_falls : peak M (terms rest') < peak M (terms rest)
        moved_falls = falls p.rest_first rest' moved_in moved_below moved_degree

        -- R + O = (R - x) + (O + x)
        over : (R O x : F) → ring.IsValue R → ring.IsValue O → ring.IsValue x
            → ring.add R O ≡ ring.add (ring.add R (ring.neg x)) (ring.add O x)
        over R O x vr vo vx =
            let n = laws.neg_value x vx in
            sym (laws.add_assoc R (ring.neg x) _ vr n (laws.add_value O x vo vx)
            ∙ ap (ring.add R) (add_swap laws (ring.neg x) O x n vo vx
            ∙ ap (ring.add O) (laws.add_comm (ring.neg x) x n vx ∙ laws.add_neg x vx) ∙ laws.add_zero O vo))

        same_sum : (b : Term) → ring.add (co rest b) (co out b) ≡ ring.add (co rest' b) (co out' b)
        same_sum b =
            let r = coefficient-value laws comm width rest b u.rest_vector in
            let o = coefficient-value laws comm width out b u.out_vector in
            let pick : (z : Bool) → ring.add (co rest b) (co out b)
            ≡ ring.add (cond z (ring.add (co rest b) (ring.neg p.first)) (co rest b)) (cond z (ring.add (co out b) p.first) (co out b)) =
            λ z. elim z as (λ z. ring.add (co rest b) (co out b)
            ≡ ring.add (cond z (ring.add (co rest b) (ring.neg p.first)) (co rest b)) (cond z (ring.add (co out b) p.first) (co out b))) [
              | true ↦ over (co rest b) (co out b) p.first r o vx
              | false ↦ refl
            ] in
            pick (eq_by_cmp as_listed b t) ∙ (λ i. ring.add (sym (rest_at b) i) (sym (out_at b) i))

        pub move_step : HasNoDivisor s t → IsUnderway M s v rest' qs out'
        move_step none =
            let top_under = t_under p.rest_first in
            let kept : (P : Term → Type 0) → P t → All (λ y. P y.0) (terms out) → All (λ y. P y.0) (terms out') =
            λ P h f. subst (λ w. All (λ y. P y.0) (terms w)) (sym p.out_is) (plus_term-all laws comm width P out t p.first u.out_vector at.0 vx h f) in
            record {
              rest_vector = moved_in;
              out_vector = subst (IsIn M) (sym p.out_is) (plus_term-vector laws comm width out t p.first u.out_vector at.0 vx);
              qs_vector = u.qs_vector;
              sum = λ b. u.sum b ∙ ap (ring.add (co (combination ring width qs s.members) b)) (same_sum b);
              rest_under = all_under p.rest_first rest' moved_in moved_below moved_degree;
              out_under = kept (IsUnder M v) top_under u.out_under;
              qs_under = u.qs_under;
              free = λ i w l. kept (λ y. ¬ (TermDivides (slice_index_or s.leads i w) y)) (none i w l) (u.free i w l);
              zero = λ z. absurd (greatest-nonzero L rest t p.first u.rest_vector p.rest_first (u.zero z).0);
            }

    -- ---- the end

    pub divide_end : {rest qs out : Vector F} → IsUnderway M s v rest qs out → rest ≡ zero_vector ring width
        → IsDivided M v s qs out
    divide_end {rest} {qs} {out} u e =
        let comb = combination-vector laws comm width qs s.members u.qs_vector.1 led.vectors in
        let Q : Term × F → Type 0 = λ a. IsUnder M v (lead_times s a.0) in
        let U : Term × F → Type 0 = λ a. IsUnder M v a.0 in
        record {
          quotients = u.qs_vector;
          rest = u.out_vector;
          sum = coefficient-ext laws comm width v _ hv (plus-vector laws comm width _ out comb u.out_vector) (λ b.
              let o = coefficient-value laws comm width out b u.out_vector in
              u.sum b ∙ ap (ring.add (co (combination ring width qs s.members) b))
              (ap (λ w. ring.add w (co out b)) (ap (λ w. co w b) e ∙ coefficient-zero laws comm width b) ∙ zero_add laws (co out b) o)
              ∙ sym (coefficient-plus laws comm width _ out b comb u.out_vector));
          free = u.free;
          not_above = λ t c g. All-weaker Q (λ a. cmp (lead_times s a.0) t ≢ Greater) (λ a p. p.0 t c g) (terms qs) u.qs_under;
          rest_not_above = λ t c g. All-weaker U (λ a. cmp a.0 t ≢ Greater) (λ a p. p.0 t c g) (terms out) u.out_under;
          degrees = λ n h. All-weaker Q (λ a. degree_of M (lead_times s a.0) ≡ n) (λ a p. p.1 n h) (terms qs) u.qs_under;
          rest_degrees = λ n h. All-weaker U (λ a. degree_of M a.0 ≡ n) (λ a p. p.1 n h) (terms out) u.out_under;
          of_zero = λ z. let o = u.zero z in (o.1, o.2);
        }
