-- Critical pairs of a prepared basis: their degrees, and that their vectors can be divided.
use Rattle.std.specs.Prelude.{◌≡◌, ℕ, ◌+◌, ◌-◌, ◌<◌, ◌≤◌, max, List, [], ◌∷◌, length, All, slice_index_or}
use Rattle.std.proofs.lemmas.Bool.{cases_lt}
use Rattle.std.proofs.lemmas.List.{get_or_default}
use Rattle.std.proofs.lemmas.List.Sums.{sum_by-cons}
use Rattle.std.proofs.lemmas.List.Elements.{All-from_get_or, All-head, All-tail, All-weaker}
use mathlib.Core.Logic.{inl, inr}
use mathlib.Core.Path.{sym, ap, ◌∙◌, subst}
use native.Mathlib.Omega.{arith}
use Rattle.hp_algebra.specs.Ring.{RingOf, greatest_weight_of}
use Rattle.hp_mono.specs.declared.term.Term.{Term}
use Rattle.hp_mono.specs.Monomials.{Monomial, IsMonomial, degree, lcm, max_degree, vars, cofactor}
use Rattle.hp_mono.proofs.MonomialLaws.{cofactor-monomial, cofactor_product, degree_product}
use Rattle.hp_poly.specs.Polynomials.{IsHomogeneous, poly_ring, term_poly}
use Rattle.hp_poly.specs.Degrees.{degree_most}
use Rattle.hp_module.specs.Vectors.{Vector, IsVector, IsHomogeneousVector, vector_plus, vector_scale}
use Rattle.hp_module.specs.FreeModules.{FreeModule, IsFreeModule, IsGraded, HasDegree, degree_of}
use Rattle.hp_module.specs.Leads.{AreLed, WithLeads, lead_at, lead_times, member_at, no_term}
use Rattle.hp_module.specs.CriticalPairs.{pair_vector}
use Rattle.hp_module.specs.ElimOrders.{elimination_order}
use Rattle.hp_module.specs.FallingTerms.{free_module, with_leads}
use Rattle.hp_module.specs.ReducedBases.{Basis}
use Rattle.hp_module.proofs.Criterion.{lead-in, lead_of, pair_symbol}
use Rattle.hp_module.proofs.GreatestTerms.{greatest-at, greatest-degree}
use Rattle.hp_module.proofs.PairRelations.{IsPair, pair-degree, pair-vector}
use Rattle.hp_groebner.specs.LimitRules.{most_degree}
use Rattle.hp_graded.specs.RelationConstants.{IsDegreeRange, IsPairOf, degree_at}
use Rattle.hp_graded.proofs.BasisMembers.{basis-monic_at, basis-plain, basis-rising, basis_lawful, basis_module, homogeneous-graded}
use Rattle.hp_graded.proofs.ConstantRows.{monic_pair}
use Rattle.hp_der.specs.BasisSettings.{IsPrepared, Prepared, led_by}

lcm-most : (a b : List ℕ) → degree (lcm a b) ≤ degree a + degree b
lcm-most [] b = omega arith
lcm-most (x ∷ a) [] = omega arith
lcm-most (x ∷ a) (y ∷ b) =
    let p = sum_by-cons (λ k. k) (max x y) (lcm a b) in
    let q = sum_by-cons (λ k. k) x a in
    let r = sum_by-cons (λ k. k) y b in
    omega (arith, p, q, r, lcm-most a b)

lcm-least : (a b : List ℕ) → length a ≡ length b → degree b ≤ degree (lcm a b)
lcm-least [] [] e = omega arith
lcm-least [] (y ∷ b) e = absurd (omega (arith, e))
lcm-least (x ∷ a) [] e = absurd (omega (arith, e))
lcm-least (x ∷ a) (y ∷ b) e =
    let p = sum_by-cons (λ k. k) (max x y) (lcm a b) in
    let r = sum_by-cons (λ k. k) y b in
    omega (arith, p, r, lcm-least a b (omega (arith, e)))

module _ {F : Type 0} {ring : RingOf F} {inverse : F → F} {b : Basis F} {p : Prepared F}
    (is : IsPrepared ring inverse b p) where
  abbrev s : WithLeads F
  s = led_by b p.leads

  abbrev M : FreeModule F
  M = basis_module ring inverse b

  abbrev L : IsFreeModule M
  L = basis_lawful is.field b is.basis

  abbrev n : ℕ
  n = length b.members

  member-degree : (i : ℕ) → i < n → (d : ℕ) × (d ≤ most_degree) × IsHomogeneousVector ring d (member_at s i) × (degree_at s i ≡ d)
  member-degree i l =
      let h = is.degrees i [] l in
      let g = is.led.led i l in
      let e = greatest-degree L (member_at s i) (lead_at s i) g.0 h.0 g.1 (homogeneous-graded ring b.width h.0 (member_at s i) h.2) in
      (h.0, h.1, h.2, sym (basis-plain is.field b is.basis (lead_at s i)) ∙ e)

  pub lead-degree : (i : ℕ) → i < length b.members → degree_at s i ≤ most_degree
  lead-degree i l = let h = member-degree i l in omega (arith, h.1, h.3)

  pub lead-monomial : (i : ℕ) → i < length b.members → IsMonomial (lead_at s i).mono
  lead-monomial i l = let g = is.led.led i l in (greatest-at L (member_at s i) (lead_at s i) g.0 (is.basis.vectors i [] l) g.1).0.0

  weight-most : (d : ℕ) (v : Vector F) → IsHomogeneousVector ring d v → greatest_weight_of (poly_ring ring) v ≤ d
  weight-most d [] h = omega arith
  weight-most d (q ∷ v) h =
      let P = IsHomogeneous ring d in
      let first = degree_most is.field.is_ring is.field.commutes d q (All-weaker (λ (t : Monomial × F). degree t.0 ≡ d) (λ t. degree t.0 ≤ d) (λ t e. omega (arith, e)) q (All-head P q v h)) in
      let rest = weight-most d v (All-tail P q v h) in
      omega (arith, first, rest)

  pub member-weight : (i : ℕ) → i < length b.members → greatest_weight_of (poly_ring ring) (slice_index_or b.members i []) ≤ most_degree
  member-weight i l = let h = member-degree i l in let w = weight-most h.0 (member_at s i) h.2 in omega (arith, h.1, w)

  pub lcm-fits : (i j : ℕ) → i < length b.members → j < length b.members
      → degree (lcm (lead_at s i).mono (lead_at s j).mono) ≤ max_degree
  lcm-fits i j li lj =
      let m = lcm-most (lead_at s i).mono (lead_at s j).mono in
      omega (arith, m, lead-degree i li, lead-degree j lj)

  pub cofactor-fits : (i j : ℕ) → i < length b.members → j < length b.members
      → degree (cofactor (lead_at s i).mono (lead_at s j).mono) + greatest_weight_of (poly_ring ring) (slice_index_or b.members i []) ≤ max_degree
  cofactor-fits i j li lj =
      let x = (lead_at s i).mono in
      let y = (lead_at s j).mono in
      let hx = lead-monomial i li in
      let hy = lead-monomial j lj in
      let m = lcm-most x y in
      let e = ap degree (cofactor_product x y (hx ∙ sym hy)) in
      let q = degree_product vars (cofactor x y) x (cofactor-monomial x y hx hy) hx in
      omega (arith, m, e, q, lead-degree i li, lead-degree j lj, member-weight i li)

  module _ (j i : ℕ) (lj : j < length b.members) (li : i < length b.members)
      (same : (lead_at s j).comp ≡ (lead_at s i).comp) where
    bj : (j + 1) - 1 ≡ j
    bj = omega arith

    bi : (i + 1) - 1 ≡ i
    bi = omega arith

    pair : IsPair L is.led (j + 1) (i + 1) ring.one ring.one
    pair = monic_pair L is.led (basis-monic_at is.field b is.basis p.leads is.led) (j + 1) (i + 1) (omega arith) (omega (arith, lj)) (omega arith) (omega (arith, li))
        (ap (λ k. (lead_at s k).comp) bj ∙ same ∙ ap (λ k. (lead_at s k).comp) (sym bi))

    pub pair-in : IsVector ring b.width (pair_vector ring s j i ring.one ring.one)
    pair-in = subst (IsVector ring b.width) (λ x. pair_vector ring s (bj x) (bi x) ring.one ring.one) (pair-vector L is.led pair)

    -- the vector of the pair is homogeneous, of a degree that divisions bear
    pub pair-graded : (d : ℕ) × (d ≤ max_degree) × IsGraded p.shifts d (pair_vector ring s j i ring.one ring.one)
    pair-graded =
        let d = degree_of M (lead_times s (pair_symbol L is.led (i + 1) (j + 1))) in
        let x = (lead_at s i).mono in
        let y = (lead_at s j).mono in
        let e : d ≡ degree (lcm x y) = basis-plain is.field b is.basis (lead_times s (pair_symbol L is.led (i + 1) (j + 1)))
        ∙ ap degree (cofactor_product (lead_of L is.led (i + 1)).mono (lead_of L is.led (j + 1)).mono
        ((lead-in L is.led (i + 1) (omega arith) (omega (arith, li))).0 ∙ sym (lead-in L is.led (j + 1) (omega arith) (omega (arith, lj))).0))
        ∙ (λ z. degree (lcm (lead_at s (bi z)).mono (lead_at s (bj z)).mono)) in (
          d,
          omega (arith, e, lcm-fits i j li lj),
          subst (λ sh. IsGraded sh d (pair_vector ring s j i ring.one ring.one)) (sym is.plain)
              (subst (λ v. HasDegree M d v) (λ z. pair_vector ring s (bj z) (bi z) ring.one ring.one) (pair-degree L is.led pair)),
        )

  -- the later member of a pair of the degree of a range isn't after the range
  pub pair-before : {start stop : ℕ} → IsDegreeRange (led_by b p.leads) start stop → {j i : ℕ}
      → IsPairOf (led_by b p.leads) (degree_at (led_by b p.leads) start) j i → i < stop
  pair-before {start} {stop} range {j} {i} q = elim (cases_lt i stop) [
    | inl l ↦ l
    | inr g ↦
        let hj = lead-monomial j (omega (arith, q.earlier, q.inside)) in
        let hi = lead-monomial i q.inside in
        let most = lcm-least (lead_at s j).mono (lead_at s i).mono (hj ∙ sym hi) in
        let up = basis-rising is.field b is.basis p.leads is.led start i (omega (arith, range.some, g)) q.inside in
        let same : degree_at s i ≡ degree_at s start = omega (arith, most, q.lcm_degree_is, up) in
        ((range.of_degree i q.inside).0 same).1
  ]

  -- the members to divide by have the leads
  pub divisors-have_leads : AreLed (free_module ring inverse b.width p.shifts (elimination_order b.split)) (with_leads ring p.divisors)
  divisors-have_leads =
      subst (λ w. AreLed (free_module ring inverse b.width p.shifts (elimination_order b.split)) w) (sym is.divisors_are)
      (subst (λ sh. AreLed (free_module ring inverse b.width sh (elimination_order b.split)) s) (sym is.plain) is.led)

  -- ---- what a program reads

  -- a lead read from a list, which is that of the leads
  pub lead-is : {us : List Term} {x : Term} (i : ℕ) → i < length b.members → us ≡ p.leads → x ≡ slice_index_or us i x
      → x ≡ lead_at (led_by b p.leads) i
  lead-is {us} {x} i l e h =
      h ∙ ap (λ (ts : List Term). slice_index_or ts i x) e ∙ get_or_default p.leads i x no_term (omega (arith, l, is.led.same_length))

  pub read-degrees : {us : List Term} → us ≡ p.leads → All (λ t. degree t.mono ≤ most_degree) us
  read-degrees {us} e =
      let P : Term → Type 0 = λ t. degree t.mono ≤ most_degree in
      subst (All P) (sym e) (All-from_get_or P p.leads no_term (λ i l. lead-degree i (omega (arith, l, is.led.same_length))))

  pub read-lcm : {us : List Term} {x y : Term} (i j : ℕ) → i < length b.members → j < length b.members → us ≡ p.leads
      → x ≡ slice_index_or us i x → y ≡ slice_index_or us j y → degree (lcm x.mono y.mono) ≤ max_degree
  read-lcm i j li lj e hx hy =
      let ex = lead-is i li e hx in
      let ey = lead-is j lj e hy in
      subst (λ n. n ≤ max_degree) (λ z. degree (lcm (sym ex z).mono (sym ey z).mono)) (lcm-fits i j li lj)

  pub read-scaled : {us : List Term} {x y : Term} {ms : List (Vector F)} {v : Vector F} {q : Monomial} (i j : ℕ)
      → i < length b.members → j < length b.members → us ≡ p.leads → x ≡ slice_index_or us i x → y ≡ slice_index_or us j y
      → ms ≡ b.members → v ≡ slice_index_or ms i v → q ≡ cofactor x.mono y.mono
      → degree q + greatest_weight_of (poly_ring ring) v ≤ max_degree
  read-scaled {us} {x} {y} {ms} {v} i j li lj e hx hy f hv hq =
      let ex = lead-is i li e hx in
      let ey = lead-is j lj e hy in
      let ev = hv ∙ ap (λ (zs : List (Vector F)). slice_index_or zs i v) f ∙ get_or_default b.members i v [] li in
      subst (λ n. n ≤ max_degree) (λ z. degree (sym (hq ∙ (λ k. cofactor (ex k).mono (ey k).mono)) z) + greatest_weight_of (poly_ring ring) (sym ev z))
      (cofactor-fits i j li lj)

  pub read-pair : {us : List Term} {x y : Term} {ms : List (Vector F)} {v w : Vector F} {q r : Monomial} {first second : Vector F} {c d : F} (j i : ℕ)
      → i < length b.members → j < length b.members → us ≡ p.leads → x ≡ slice_index_or us i x → y ≡ slice_index_or us j y
      → ms ≡ b.members → v ≡ slice_index_or ms i v → w ≡ slice_index_or ms j w → q ≡ cofactor x.mono y.mono → r ≡ cofactor y.mono x.mono
      → c ≡ ring.one → d ≡ ring.neg ring.one
      → first ≡ vector_scale ring (term_poly ring c q) v → second ≡ vector_scale ring (term_poly ring d r) w
      → vector_plus ring first second ≡ pair_vector ring (led_by b p.leads) j i ring.one ring.one
  read-pair {us} {x} {y} {ms} {v} {w} j i li lj e hx hy f hv hw hq hr hc hd h1 h2 =
      let ex = lead-is i li e hx in
      let ey = lead-is j lj e hy in
      let ev = hv ∙ ap (λ (zs : List (Vector F)). slice_index_or zs i v) f ∙ get_or_default b.members i v [] li in
      let ew = hw ∙ ap (λ (zs : List (Vector F)). slice_index_or zs j w) f ∙ get_or_default b.members j w [] lj in
      let eq = hq ∙ (λ k. cofactor (ex k).mono (ey k).mono) in
      let er = hr ∙ (λ k. cofactor (ey k).mono (ex k).mono) in
      (λ z. vector_plus ring ((h1 ∙ (λ k. vector_scale ring (term_poly ring (hc k) (eq k)) (ev k))) z)
      ((h2 ∙ (λ k. vector_scale ring (term_poly ring (hd k) (er k)) (ew k))) z))

  -- what a division asks of the vector of a pair
  pub read-graded : {j i d : ℕ} → IsPairOf (led_by b p.leads) d j i → {shifts : List ℕ} {v : Vector F} → shifts ≡ p.shifts
      → v ≡ pair_vector ring (led_by b p.leads) j i ring.one ring.one
      → IsVector ring b.width v × ((e : ℕ) × (e ≤ max_degree) × IsGraded shifts e v)
  read-graded {j} {i} q {shifts} {v} es ev =
      let lj : j < length b.members = omega (arith, q.earlier, q.inside) in (
        subst (IsVector ring b.width) (sym ev) (pair-in j i lj q.inside q.same_component),
        subst (λ w. (e : ℕ) × (e ≤ max_degree) × IsGraded shifts e w) (sym ev)
            (subst (λ sh. (e : ℕ) × (e ≤ max_degree) × IsGraded sh e (pair_vector ring s j i ring.one ring.one)) (sym es)
            (pair-graded j i lj q.inside q.same_component)),
      )
