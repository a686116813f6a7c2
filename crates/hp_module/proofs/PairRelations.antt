-- The vector of a critical pair: its terms are below the lcm and have its degree. Where a division of it leaves no
-- remainder, there is a relation of the pair.
use Rattle.std.specs.Prelude.{◌≡◌, ◌≢◌, ℕ, ◌-◌, ◌<◌, ◌≤◌, List, [], ◌∷◌, length, All}
use Rattle.std.specs.declared.cmp.Ordering.TheVariants.{Less, Equal, Greater}
use Rattle.std.proofs.lemmas.Bool.{cases_eq}
use Rattle.std.proofs.lemmas.List.Elements.{All-nil, All-cons, All-map, All-weaker}
use mathlib.Core.Logic.{inl, inr}
use mathlib.Core.Path.{refl, sym, ap, ◌∙◌, subst}
use native.Mathlib.Omega.{arith}
use Rattle.hp_algebra.specs.Ring.{IsRing, IsCommutative}
use Rattle.hp_algebra.proofs.Rings.{mul_zero, neg_mul}
use Rattle.hp_mono.specs.declared.term.Term.{Term}
use Rattle.hp_mono.specs.TermOrders.{IsTermOrder, IsTermWithin}
use Rattle.hp_sums.specs.FiniteSums.{HasValues, total}
use Rattle.hp_sums.proofs.SumSetting.{SumSetting}
use Rattle.hp_sums.proofs.WeightedSums.{scaled, scaled-values, weighted, weighted-scaled}
use Rattle.hp_sums.proofs.EqualTotals.{weighted-same}
use Rattle.hp_module.specs.Vectors.{Vector, IsVector, combination, vector_plus, zero_vector}
use Rattle.hp_module.specs.FreeModules.{FreeModule, IsFreeModule, IsIn, HasDegree, as_listed, coefficient_at, degree_of, terms}
use Rattle.hp_module.specs.Leads.{AreLed, IsGreatestTerm, WithLeads, lead_times, member_at}
use Rattle.hp_module.specs.CriticalPairs.{pair_vector}
use Rattle.hp_module.specs.Divisions.{IsDivided}
use Rattle.hp_module.proofs.VectorSums.{term_setting, terms-values, terms-zero}
use Rattle.hp_module.proofs.VectorCoefficients.{all-terms, coefficient-ext, coefficient-multiple, coefficient-plus, coefficient-value, coefficient-zero, combination-vector, multiple-vector, plus-vector, within, zero-vector}
use Rattle.hp_module.proofs.GreatestTerms.{greatest-at, zero_or_greatest}
use Rattle.hp_module.proofs.OrderedTerms.{degree-times, less-back}
use Rattle.hp_module.proofs.DivisionSteps.{multiple-lead, multiple-other}
use Rattle.hp_module.proofs.Symbols.{vector_of}
use Rattle.hp_module.proofs.Criterion.{IsLower, lead-in, lead_of, on_member, on_member-value, pair_symbol, pair_symbol-in, pair_top, symbol-above, top-in}
use Rattle.hp_module.proofs.GroebnerLaw.{IsPairRelation, combination-symbols}

module _ {F : Type 0} {M : FreeModule F} (L : IsFreeModule M) {s : WithLeads F} (led : AreLed M s) where
  open M use {ring, width, cmp}

  abbrev laws : IsRing ring
  laws = L.field.is_ring

  abbrev comm : IsCommutative ring
  comm = L.field.commutes

  abbrev order : IsTermOrder width cmp
  order = L.order

  abbrev T : SumSetting Term F
  T = term_setting laws comm

  abbrev Val : Term × F → Type 0
  Val t = ring.IsValue t.1

  abbrev co : Vector F → Term → F
  co v b = coefficient_at ring v b

  -- the coefficient of a member at its lead
  abbrev pub lead_coefficient : ℕ → F
  lead_coefficient c = coefficient_at ring (member_at s (c - 1)) (lead_of L led c)

  -- Two members whose leads have one component, with factors that make their lead coefficients equal.
  pub record IsPair (j i : ℕ) (a b : F) : Type 0 where
    pub j_low : 1 ≤ j
    pub j_high : j ≤ length s.members
    pub i_low : 1 ≤ i
    pub i_high : i ≤ length s.members
    pub same_comp : (lead_of L led j).comp ≡ (lead_of L led i).comp
    pub a_value : ring.IsValue a
    pub b_value : ring.IsValue b
    pub a_nonzero : a ≢ ring.zero
    pub balanced : ring.mul a (lead_coefficient i) ≡ ring.mul b (lead_coefficient j)

  module _ {j i : ℕ} {a b : F} (p : IsPair j i a b) where
    abbrev up : Term
    up = pair_symbol L led i j

    abbrev down : Term
    down = pair_symbol L led j i

    abbrev lcm_term : Term
    lcm_term = lead_times s up

    abbrev v : Vector F
    v = pair_vector ring s (j - 1) (i - 1) a b

    up_in : IsTermWithin (length s.members) up
    up_in = pair_symbol-in L led i j p.i_low p.i_high p.j_low p.j_high

    down_in : IsTermWithin (length s.members) down
    down_in = pair_symbol-in L led j i p.j_low p.j_high p.i_low p.i_high

    lcm_in : IsTermWithin width lcm_term
    lcm_in = top-in L led up up_in

    nb : ring.IsValue (ring.neg b)
    nb = laws.neg_value b p.b_value

    member_in : (c : ℕ) → 1 ≤ c → c ≤ length s.members → IsIn M (member_at s (c - 1))
    member_in c lo hi = led.vectors (c - 1) [] (omega (arith, lo, hi))

    member_led : (c : ℕ) → 1 ≤ c → c ≤ length s.members
        → (x : F) × IsGreatestTerm cmp (member_at s (c - 1)) (lead_of L led c) x
    member_led c lo hi = led.led (c - 1) (omega (arith, lo, hi))

    pub pair-vector : IsIn M (pair_vector ring s (j - 1) (i - 1) a b)
    pair-vector = plus-vector laws comm width _ _
        (multiple-vector laws comm width a up.mono _ p.a_value up_in.0 (member_in i p.i_low p.i_high))
        (multiple-vector laws comm width (ring.neg b) down.mono _ nb down_in.0 (member_in j p.j_low p.j_high))

    abbrev im : Term → Term → F
    im x t = on_member L led x t

    imv : (x t : Term) → ring.IsValue (on_member L led x t)
    imv = on_member-value L led

    -- the coefficients of the vector of the pair
    pub pair-at : (x : Term) → coefficient_at ring (pair_vector ring s (j - 1) (i - 1) a b) x
        ≡ ring.add (ring.mul a (im x up)) (ring.mul (ring.neg b) (im x down))
    pair-at x =
        let hi = member_in i p.i_low p.i_high in
        let hj = member_in j p.j_low p.j_high in
        let e = coefficient-multiple laws comm width a up.mono (member_at s (i - 1)) x p.a_value up_in.0 hi in
        let f = coefficient-multiple laws comm width (ring.neg b) down.mono (member_at s (j - 1)) x nb down_in.0 hj in
        coefficient-plus laws comm width _ _ x (multiple-vector laws comm width a up.mono _ p.a_value up_in.0 hi)
        (multiple-vector laws comm width (ring.neg b) down.mono _ nb down_in.0 hj)
        ∙ (λ k. ring.add (e k) (f k))

    same_top : lead_times s down ≡ lead_times s up
    same_top = pair_top L led i j (lead-in L led i p.i_low p.i_high).0 (lead-in L led j p.j_low p.j_high).0 p.same_comp

    -- both symbols have no coefficient at x
    both_absent : (x : Term) → im x up ≡ ring.zero → im x down ≡ ring.zero → co v x ≡ ring.zero
    both_absent x e f =
        pair-at x ∙ (λ k. ring.add (ring.mul a (e k)) (ring.mul (ring.neg b) (f k)))
        ∙ (λ k. ring.add (mul_zero laws a p.a_value k) (mul_zero laws (ring.neg b) nb k)) ∙ laws.add_zero ring.zero laws.zero_value

    at_top : co v lcm_term ≡ ring.zero
    at_top =
        let gi = member_led i p.i_low p.i_high in
        let gj = member_led j p.j_low p.j_high in
        let hi = member_in i p.i_low p.i_high in
        let hj = member_in j p.j_low p.j_high in
        let ci = coefficient-value laws comm width (member_at s (i - 1)) (lead_of L led i) hi in
        let cj = coefficient-value laws comm width (member_at s (j - 1)) (lead_of L led j) hj in
        let x : im lcm_term up ≡ lead_coefficient i =
        multiple-lead L (member_at s (i - 1)) (lead_of L led i) gi.0 up.mono hi gi.1 up_in.0
        ∙ sym (greatest-at L (member_at s (i - 1)) (lead_of L led i) gi.0 hi gi.1).1 in
        let y : im lcm_term down ≡ lead_coefficient j =
        ap (λ t. im t down) (sym same_top)
        ∙ multiple-lead L (member_at s (j - 1)) (lead_of L led j) gj.0 down.mono hj gj.1 down_in.0
        ∙ sym (greatest-at L (member_at s (j - 1)) (lead_of L led j) gj.0 hj gj.1).1 in
        pair-at lcm_term ∙ (λ k. ring.add (ring.mul a (x k)) (ring.mul (ring.neg b) (y k)))
        ∙ (λ k. ring.add (p.balanced k) (neg_mul laws b (lead_coefficient j) p.b_value cj k))
        ∙ laws.add_neg _ (laws.mul_value b _ p.b_value cj)

    -- The terms of the vector of the pair are below the lcm
    pub pair-low : All (λ t. cmp t.0 (lead_times s (pair_symbol L led i j)) ≡ Less)
        (terms (pair_vector ring s (j - 1) (i - 1) a b))
    pair-low = all-terms laws comm width v (λ x. cmp x lcm_term ≡ Less) pair-vector (λ x hx n.
        elim (cmp x lcm_term) as (λ r. cmp x lcm_term ≡ r → cmp x lcm_term ≡ Less) [
          | Less ↦ λ e. e
          | Equal ↦ λ e. absurd (n (ap (co v) (order.same x lcm_term hx lcm_in e) ∙ at_top))
          | Greater ↦ λ e.
              let l = less-back order x lcm_term hx lcm_in e in
              absurd (n (both_absent x (symbol-above L led up x up_in l) (symbol-above L led down x down_in (ap (λ t. cmp t x) same_top ∙ l))))
        ] refl)

    -- and have its degree
    pub pair-degree : HasDegree M (degree_of M (lead_times s (pair_symbol L led i j)))
        (pair_vector ring s (j - 1) (i - 1) a b)
    pair-degree = all-terms laws comm width v (λ x. degree_of M x ≡ degree_of M lcm_term) pair-vector (λ x hx n.
        elim (cases_eq (degree_of M x) (degree_of M lcm_term)) [
          | inl e ↦ e
          | inr o ↦
              let gi = member_led i p.i_low p.i_high in
              let gj = member_led j p.j_low p.j_high in
              let li = lead-in L led i p.i_low p.i_high in
              let lj = lead-in L led j p.j_low p.j_high in
              let ei = degree-times M up.mono (lead_of L led i) up_in.0 li.0 in
              let ej = degree-times M down.mono (lead_of L led j) down_in.0 lj.0 in
              let bi : i - 1 < length s.members = omega (arith, p.i_low, p.i_high) in
              let bj : j - 1 < length s.members = omega (arith, p.j_low, p.j_high) in
              let zi = multiple-other L (member_at s (i - 1)) (lead_of L led i) gi.0 up.mono (member_in i p.i_low p.i_high) gi.1 up_in.0
              (degree_of M (lead_of L led i)) (led.homogeneous (i - 1) bi) x (λ e. o (e ∙ sym ei)) in
              let zj = multiple-other L (member_at s (j - 1)) (lead_of L led j) gj.0 down.mono (member_in j p.j_low p.j_high) gj.1 down_in.0
              (degree_of M (lead_of L led j)) (led.homogeneous (j - 1) bj) x (λ e. o (e ∙ sym ej ∙ ap (degree_of M) same_top)) in
              absurd (n (both_absent x zi zj))
        ])

    -- ---- a relation of the pair

    -- the two symbols with their coefficients, and a combination taken away
    abbrev pub relation_terms : Vector F → List (Term × F)
    relation_terms qs = (up, a) ∷ (down, ring.neg b) ∷ scaled ring (ring.neg ring.one) (terms qs)

    one_in : ring.IsValue (ring.neg ring.one)
    one_in = laws.neg_value ring.one laws.one_value

    -- x + (y - (x + y)) = 0
    vanish : (x y z : F) → ring.IsValue x → ring.IsValue y → z ≡ ring.add x y
        → ring.add x (ring.add y (ring.mul (ring.neg ring.one) z)) ≡ ring.zero
    vanish x y z vx vy e =
        let vs = laws.add_value x y vx vy in
        let m = laws.mul_value _ _ one_in vs in
        ap (λ u. ring.add x (ring.add y (ring.mul (ring.neg ring.one) u))) e ∙ sym (laws.add_assoc x y _ vx vy m)
        ∙ ap (ring.add (ring.add x y)) (neg_mul laws ring.one _ laws.one_value vs ∙ ap ring.neg (laws.one_mul _ vs))
        ∙ laws.add_neg _ vs

    -- What a relation of the pair is made of: these terms.
    pub record IsRelationOf (qs rel : Vector F) : Type 0 where
      pub vector : IsVector ring (length s.members) rel
      pub zero : combination ring width rel s.members ≡ zero_vector ring width
      pub relation : IsPairRelation L led j i rel
      pub same : (x : Term) → coefficient_at ring rel x ≡ total as_listed ring (relation_terms qs) x

    -- Where the vector of the pair is a combination of what is lower, this gives a relation of the pair.
    pub pair_relation : (qs : Vector F) → IsVector ring (length s.members) qs
        → pair_vector ring s (j - 1) (i - 1) a b ≡ combination ring width qs s.members
        → All (λ t. (degree_of M (lead_times s t.0) ≡ degree_of M (lead_times s (pair_symbol L led i j)))
        × (cmp (lead_times s t.0) (lead_times s (pair_symbol L led i j)) ≡ Less)) (terms qs)
        → (rel : Vector F) × IsRelationOf qs rel
    pair_relation qs f e low =
        let In : Term × F → Type 0 = λ t. IsTermWithin (length s.members) t.0 in
        let qv = terms-values laws comm 1 qs f.1 in
        let qw = within laws comm (length s.members) qs f in
        let sv = scaled-values T (ring.neg ring.one) (terms qs) one_in qv in
        let rest = scaled ring (ring.neg ring.one) (terms qs) in
        let flat_values : HasValues ring (relation_terms qs) =
        All-cons Val (up, a) ((down, ring.neg b) ∷ rest) p.a_value (All-cons Val (down, ring.neg b) rest nb sv) in
        let flat_in : All In (relation_terms qs) =
        All-cons In (up, a) ((down, ring.neg b) ∷ rest) up_in
        (All-cons In (down, ring.neg b) rest down_in (All-map In (λ t. (t.0, ring.mul (ring.neg ring.one) t.1)) (terms qs) qw)) in
        let r = vector_of laws comm (length s.members) (relation_terms qs) flat_values flat_in in
        let rv = terms-values laws comm 1 r.0 r.1.1 in
        let cv = combination-vector laws comm width r.0 s.members r.1.1 led.vectors in
        let zero_at : (x : Term) → co (combination ring width r.0 s.members) x ≡ ring.zero =
        λ x.
        let sum : weighted ring (on_member L led x) (terms qs) ≡ ring.add (ring.mul a (im x up)) (ring.mul (ring.neg b) (im x down)) =
        sym (combination-symbols L led qs f x) ∙ ap (λ w. co w x) (sym e) ∙ pair-at x in
        combination-symbols L led r.0 r.1 x
        ∙ weighted-same T (on_member L led x) (on_member-value L led x) (terms r.0) (relation_terms qs) rv flat_values r.2
        ∙ ap (λ u. ring.add (ring.mul a (im x up)) (ring.add (ring.mul (ring.neg b) (im x down)) u))
        (weighted-scaled T (on_member L led x) (on_member-value L led x) (ring.neg ring.one) (terms qs) one_in qv)
        ∙ vanish _ _ _ (laws.mul_value a _ p.a_value (imv x up)) (laws.mul_value _ _ nb (imv x down)) sum in (
          r.0,
          record {
            vector = r.1;
            zero = coefficient-ext laws comm width _ (zero_vector ring width) cv (zero-vector laws comm width)
                (λ x. zero_at x ∙ sym (coefficient-zero laws comm width x));
            relation = record {
              first = a;
              second = ring.neg b;
              first_value = p.a_value;
              second_value = nb;
              first_nonzero = p.a_nonzero;
              rest = rest;
              rest_values = sv;
              lower = All-map (λ (t : Term × F). IsLower L led j i t.0) (λ t. (t.0, ring.mul (ring.neg ring.one) t.1)) (terms qs)
                  (λ k d l. (qw k d l, (low k d l).0, (low k d l).1));
              same = r.2;
            };
            same = r.2;
          },
        )

    -- A division of the vector of the pair that leaves no remainder gives a relation of the pair.
    pub divided_pair : {qs r : Vector F} → IsDivided M (pair_vector ring s (j - 1) (i - 1) a b) s qs r
        → r ≡ zero_vector ring width → (rel : Vector F) × IsRelationOf qs rel
    divided_pair {qs} {r} d z =
        let cv = combination-vector laws comm width qs s.members d.quotients.1 led.vectors in
        let zv = zero-vector laws comm width in
        let sum : v ≡ combination ring width qs s.members =
        coefficient-ext laws comm width v _ pair-vector cv (λ x.
        ap (λ w. co w x) (d.sum ∙ ap (λ w. vector_plus ring (combination ring width qs s.members) w) z)
        ∙ coefficient-plus laws comm width _ _ x cv zv ∙ ap (ring.add (co (combination ring width qs s.members) x)) (coefficient-zero laws comm width x)
        ∙ laws.add_zero _ (coefficient-value laws comm width _ x cv)) in
        let degrees = d.degrees (degree_of M lcm_term) pair-degree in
        let qw = within laws comm (length s.members) qs d.quotients in
        let Low : Term × F → Type 0 = λ t. cmp (lead_times s t.0) lcm_term ≡ Less in
        let below : All Low (terms qs) = elim (zero_or_greatest L v pair-vector) [
          | inl e ↦ subst (All Low) (sym (ap terms (d.of_zero e).0 ∙ terms-zero ring 1 (length s.members))) (All-nil Low)
          | inr g ↦
              let top = greatest-at L v g.0 g.1 pair-vector g.2 in
              let l = low_lead g.0 g.1 g.2 in
              λ k y m. chain _ g.0 (top-in L led _ (qw k y m)) top.0 (d.not_above g.0 g.1 g.2 k y m) l
        ] in
        pair_relation qs d.quotients sum (λ k y m. (degrees k y m, below k y m))
      where
        low_lead : (t : Term) (x : F) → IsGreatestTerm cmp v t x → cmp t lcm_term ≡ Less
        low_lead t x g = Rattle.std.proofs.lemmas.List.Elements.All-contains (λ (s : Term × F). cmp s.0 lcm_term ≡ Less) (terms v) (t, x) pair-low g.occurs

        chain : (u t : Term) → IsTermWithin width u → IsTermWithin width t → cmp u t ≢ Greater → cmp t lcm_term ≡ Less
            → cmp u lcm_term ≡ Less
        chain u t hu ht n e =
            elim (cmp u t) as (λ r. cmp u t ≡ r → cmp u lcm_term ≡ Less) [
              | Less ↦ λ q. order.transitive u t lcm_term hu ht lcm_in q e
              | Equal ↦ λ q. ap (λ w. cmp w lcm_term) (order.same u t hu ht q) ∙ e
              | Greater ↦ λ q. absurd (n q)
            ] refl
