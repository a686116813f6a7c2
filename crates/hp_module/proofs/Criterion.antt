-- Buchberger's criterion with relations, for every term order. Where the two members of each critical pair have multiples
-- that differ by what is lower, up to relations, each combination is a relation or has the lead of a multiple of a member.
use Rattle.std.specs.Prelude.{◌≡◌, ◌≢◌, ◌⊎◌, ℕ, zero, suc, ◌+◌, ◌*◌, ◌-◌, ◌<◌, ◌≤◌, List, [], ◌∷◌, length, All}
use Rattle.std.specs.declared.cmp.Ordering.TheVariants.{Less}
use Rattle.std.proofs.lemmas.Bool.{cases_eq, cases_lt}
use Rattle.std.proofs.lemmas.List.Elements.{All-nil, All-cons, All-map, All-weaker}
use mathlib.Core.Logic.{inl, inr}
use mathlib.Core.Path.{sym, ap, ◌∙◌, subst}
use native.Mathlib.Omega.{arith}
use Rattle.hp_algebra.specs.Ring.{IsRing, IsCommutative}
use Rattle.hp_algebra.proofs.Rings.{field-domain}
use Rattle.hp_mono.specs.declared.term.Term.{Term}
use Rattle.hp_mono.specs.Monomials.{Monomial, IsMonomial, degree, product, vars, cofactor}
use Rattle.hp_mono.specs.TermOrders.{IsTermOrder, IsTermWithin, TermDivides, times}
use Rattle.hp_mono.proofs.MonomialLaws.{cancel_product, cofactor-monomial, cofactor_product, common, lcm_comm, product-monomial, product_assoc}
use Rattle.hp_mono.proofs.TermLaws.{term_divides-decided, times-times, times-within}
use Rattle.hp_sums.specs.FiniteSums.{HasValues}
use Rattle.hp_sums.proofs.SumSetting.{SumSetting}
use Rattle.hp_sums.proofs.WeightedSums.{weighted}
use Rattle.hp_sums.proofs.Rewriting.{AreCongruent, IsCongruence, IsSpace, Step, congruence, congruent_same, rewrite_all, weighted-congruent}
use Rattle.hp_sums.proofs.SymbolLeads.{HasLead, LeadSetting, zero_or_lead}
use Rattle.hp_module.specs.FreeModules.{FreeModule, IsFreeModule, degree_of}
use Rattle.hp_module.specs.Leads.{AreLed, WithLeads, lead_at, lead_times, member_at}
use Rattle.hp_module.specs.Divisions.{height}
use Rattle.hp_module.proofs.VectorSums.{shifted, term_setting}
use Rattle.hp_module.proofs.VectorCoefficients.{family, family-values, image, image-value}
use Rattle.hp_module.proofs.GreatestTerms.{greatest-at}
use Rattle.hp_module.proofs.OrderedTerms.{degree-times, height-less}
use Rattle.hp_module.proofs.DivisionSteps.{multiple-above, multiple-lead}
use Rattle.hp_module.proofs.Symbols.{congruent-shifted}

-- a place from 1 to n with a property that is decided, or none
abbrev pub Found : (ℕ → Type 0) → ℕ → Type 0
Found P n = (j : ℕ) × (1 ≤ j) × (j ≤ n) × P j

abbrev pub NotFound : (ℕ → Type 0) → ℕ → Type 0
NotFound P n = (j : ℕ) → 1 ≤ j → j ≤ n → ¬ (P j)

pub search : (P : ℕ → Type 0) (n : ℕ) → ((j : ℕ) → 1 ≤ j → j ≤ n → P j ⊎ ¬ (P j)) → Found P n ⊎ NotFound P n
search P zero f = inr (λ j a b. absurd (omega (arith, a, b)))
search P (suc n) f =
    let low : 1 ≤ suc n = omega arith in
    let high : suc n ≤ suc n = omega arith in
    let wider : (j : ℕ) → j ≤ n → j ≤ suc n = λ j l. omega arith in
    elim (search P n (λ j a b. f j a (wider j b))) [
      | inl r ↦ inl (r.0, r.1, wider r.0 r.2, r.3)
      | inr none ↦ elim (f (suc n) low high) [
        | inl p ↦ inl (suc n, low, high, p)
        | inr not ↦ inr (λ j a b. elim (cases_eq j (suc n)) [
          | inl e ↦ subst (λ k. ¬ (P k)) (sym e) not
          | inr o ↦ none j a (omega (arith, b, o))
        ])
      ]
    ]

-- Members are before others by a ranking of the places 1 to n.
pub record Ranking (n : ℕ) : Type 0 where
  pub rank : ℕ → ℕ
  pub most : ℕ
  pub rank_most : (i : ℕ) → 1 ≤ i → i ≤ n → rank i ≤ most
  pub apart : (i j : ℕ) → 1 ≤ i → i ≤ n → 1 ≤ j → j ≤ n → rank i ≡ rank j → i ≡ j

-- where the height falls, the size falls
lower_size : (s h k i j : ℕ) → h < k → i ≤ s → h * suc s + i < k * suc s + j
lower_size s h k i j l b = grind arith

module _ {F : Type 0} {M : FreeModule F} (L : IsFreeModule M) {s : WithLeads F} (led : AreLed M s) where
  open M use {ring, width, cmp}

  abbrev laws : IsRing ring
  laws = L.field.is_ring

  abbrev comm : IsCommutative ring
  comm = L.field.commutes

  abbrev order : IsTermOrder width cmp
  order = L.order

  abbrev T : SumSetting Term F
  T = term_setting laws comm

  abbrev n : ℕ
  n = length s.members

  abbrev pub members_family : ℕ → List (Term × F)
  members_family = family laws comm s.members

  -- the coefficient at b of a symbol
  abbrev pub on_member : Term → Term → F
  on_member b a = image laws comm (family laws comm s.members) b a

  pub on_member-value : (b a : Term) → ring.IsValue (on_member b a)
  on_member-value b a = image-value laws comm (family laws comm s.members) (family-values laws comm width s.members led.vectors) b a

  -- the lead of the member of a component
  abbrev pub lead_of : ℕ → Term
  lead_of c = lead_at s (c - 1)

  place : (c : ℕ) → 1 ≤ c → c ≤ length s.members → c - 1 < length s.members
  place c a b = omega arith

  pub lead-in : (c : ℕ) → 1 ≤ c → c ≤ length s.members → IsTermWithin width (lead_of c)
  lead-in c a b =
      let l = place c a b in
      let g = led.led (c - 1) l in
      (greatest-at L (member_at s (c - 1)) (lead_of c) g.0 (led.vectors (c - 1) [] l) g.1).0

  -- ---- the leads of symbols

  pub top-in : (a : Term) → IsTermWithin (length s.members) a → IsTermWithin width (lead_times s a)
  top-in a h = times-within width a.mono (lead_of a.comp) h.0 (lead-in a.comp h.1 h.2)

  pub top-times : (m : Monomial) (a : Term) → lead_times s (times m a) ≡ times m (lead_times s a)
  top-times m a = times-times m a.mono (lead_of a.comp)

  pub top-degree : (m : Monomial) (a : Term) → IsMonomial m → IsTermWithin (length s.members) a
      → degree_of M (lead_times s (times m a)) ≡ degree m + degree_of M (lead_times s a)
  top-degree m a im h = ap (degree_of M) (top-times m a) ∙ degree-times M m (lead_times s a) im (top-in a h).0

  -- a symbol has a coefficient at its lead, and none above
  pub symbol-nonzero : (a : Term) → IsTermWithin (length s.members) a → on_member (lead_times s a) a ≢ ring.zero
  symbol-nonzero a h z =
      let l = place a.comp h.1 h.2 in
      let g = led.led (a.comp - 1) l in
      let v = led.vectors (a.comp - 1) [] l in
      (greatest-at L (member_at s (a.comp - 1)) (lead_of a.comp) g.0 v g.1).2
      (sym (multiple-lead L (member_at s (a.comp - 1)) (lead_of a.comp) g.0 a.mono v g.1 h.0) ∙ z)

  pub symbol-above : (a b : Term) → IsTermWithin (length s.members) a → cmp (lead_times s a) b ≡ Less
      → on_member b a ≡ ring.zero
  symbol-above a b h e =
      let l = place a.comp h.1 h.2 in
      let g = led.led (a.comp - 1) l in
      multiple-above L (member_at s (a.comp - 1)) (lead_of a.comp) g.0 a.mono (led.vectors (a.comp - 1) [] l) g.1 h.0 b e

  -- the symbol at i that has the lcm of the leads of i and j as lead
  abbrev pub pair_symbol : ℕ → ℕ → Term
  pair_symbol i j = record { mono = cofactor (lead_of i).mono (lead_of j).mono; comp = i }

  -- the two symbols of a pair have one lead
  pub pair_top : (i k : ℕ) → IsMonomial (lead_of i).mono → IsMonomial (lead_of k).mono
      → (lead_of k).comp ≡ (lead_of i).comp → lead_times s (pair_symbol k i) ≡ lead_times s (pair_symbol i k)
  pair_top i k mi mk e =
      let a = (lead_of i).mono in
      let b = (lead_of k).mono in
      let p = cofactor_product b a (mk ∙ sym mi) ∙ lcm_comm b a ∙ sym (cofactor_product a b (mi ∙ sym mk)) in
      λ x. record { mono = p x; comp = e x }

  pub pair_symbol-in : (i j : ℕ) → 1 ≤ i → i ≤ length s.members → 1 ≤ j → j ≤ length s.members
      → IsTermWithin (length s.members) (pair_symbol i j)
  pair_symbol-in i j a b c d =
      (cofactor-monomial (lead_of i).mono (lead_of j).mono (lead-in i a b).0 (lead-in j c d).0, a, b)

  -- ---- relations

  -- A space of relations, closed under monomials.
  pub record IsRelationSpace (R : List (Term × F) → Type 0) : Type 0 where
    pub space : IsSpace T R
    pub closed : (m : Monomial) (xs : List (Term × F)) → IsMonomial m → R xs → R (shifted m xs)
    pub relations : (xs : List (Term × F)) (b : Term) → R xs → weighted ring (on_member b) xs ≡ ring.zero

  -- lower than the symbols of a pair, of their degree
  abbrev pub IsLower : ℕ → ℕ → Term → Type 0
  IsLower j i t =
      IsTermWithin (length s.members) t × (degree_of M (lead_times s t) ≡ degree_of M (lead_times s (pair_symbol i j)))
      × (cmp (lead_times s t) (lead_times s (pair_symbol i j)) ≡ Less)

  module _ (R : List (Term × F) → Type 0) where
    abbrev Cong : List (Term × F) → List (Term × F) → Type 0
    Cong = AreCongruent T R

    -- The symbols of a pair differ, after a constant factor, by what is lower, up to relations.
    pub record IsReducedPair (j i : ℕ) : Type 0 where
      pub factor : F
      pub rest : List (Term × F)
      pub cong : AreCongruent T R ((pair_symbol i j, ring.one) ∷ []) ((pair_symbol j i, factor) ∷ rest)
      pub lower : All (λ t. IsLower j i t.0) rest

    -- A pair of i and a member before it that is reduced, whose symbol at i divides that of the pair of i and j.
    pub record IsCovered (rank : ℕ → ℕ) (j i : ℕ) : Type 0 where
      pub place : ℕ
      pub low : 1 ≤ place
      pub high : place ≤ length s.members
      pub before : rank place < rank i
      pub same_comp : (lead_of place).comp ≡ (lead_of i).comp
      pub factor : Monomial
      pub factor_monomial : IsMonomial factor
      pub divides : product factor (cofactor (lead_of i).mono (lead_of place).mono)
          ≡ cofactor (lead_of i).mono (lead_of j).mono
      pub reduced : IsReducedPair place i

    -- all critical pairs up to degree d are covered
    abbrev pub CoversUpTo : (ℕ → ℕ) → ℕ → Type 0
    CoversUpTo rank d = (j i : ℕ) → 1 ≤ j → j ≤ length s.members → 1 ≤ i → i ≤ length s.members → rank j < rank i
        → (lead_of j).comp ≡ (lead_of i).comp → degree_of M (lead_times s (pair_symbol i j)) ≤ d → IsCovered rank j i

    module _ (rs : IsRelationSpace R) (rk : Ranking (length s.members)) (d : ℕ) (pairs : CoversUpTo rk.rank d) where
      -- the symbols whose leads have degree at most d
      abbrev pub Q : Term → Type 0
      Q a = IsTermWithin (length s.members) a × (degree_of M (lead_times s a) ≤ d)

      -- no member before divides the lead
      abbrev pub C : Term → Type 0
      C a = (j : ℕ) → 1 ≤ j → j ≤ length s.members → ¬ ((rk.rank j < rk.rank a.comp) × TermDivides (lead_of j) (lead_times s a))

      abbrev pub size : Term → ℕ
      size a = height M (lead_times s a) * suc rk.most + rk.rank a.comp

      abbrev cong : IsCongruence ring (AreCongruent T R)
      cong = congruence T R rs.space

      unfoldable pub symbols_led : LeadSetting T Term
      symbols_led = record {
        Q = λ a. IsTermWithin (length s.members) a × (degree_of M (lead_times s a) ≤ d);
        U = IsTermWithin width;
        lead = lead_times s;
        cmp = cmp;
        w = on_member;
        value = on_member-value;
        within = λ a q. top-in a q.0;
        nonzero = λ a q. symbol-nonzero a q.0;
        above = λ a b q u e. symbol-above a b q.0 e;
        tied = order.same;
        opposite = order.opposite;
        transitive = order.transitive;
        domain = λ x y vx vy nx ny e. elim ((field-domain L.field).no_zero_divisors x y vx vy e) [ inl z ↦ nx z | inr z ↦ ny z ];
      }

      -- canonical symbols have different leads
      pub canonical-apart : (a b : Term) → C a → C b → Q a → Q b → lead_times s a ≡ lead_times s b → a ≡ b
      canonical-apart a b ca cb qa qb e =
          let wl = lead-in a.comp qa.0.1 qa.0.2 in
          let together : a.comp ≡ b.comp → a ≡ b =
          λ c.
          let p : product a.mono (lead_of a.comp).mono ≡ product b.mono (lead_of a.comp).mono =
          ap (λ t. t.mono) e ∙ ap (λ k. product b.mono (lead_of k).mono) (sym c) in
          let m = cancel_product a.mono b.mono (lead_of a.comp).mono (qa.0.0 ∙ sym wl.0) (qb.0.0 ∙ sym wl.0) p in
          λ i. record { mono = m i; comp = c i } in
          elim (cases_eq (rk.rank a.comp) (rk.rank b.comp)) [
            | inl c ↦ together (rk.apart a.comp b.comp qa.0.1 qa.0.2 qb.0.1 qb.0.2 c)
            | inr o ↦ elim (cases_lt (rk.rank a.comp) (rk.rank b.comp)) [
              | inl l ↦ absurd (cb a.comp qa.0.1 qa.0.2 (l, (a.mono, qa.0.0, e)))
              | inr g ↦ absurd (ca b.comp qb.0.1 qb.0.2 (omega (arith, g, o), (b.mono, qb.0.0, sym e)))
            ]
          ]

      -- ---- a step

      -- a member before whose lead divides that of the symbol, or the symbol is canonical
      abbrev IsBefore : Term → ℕ → Type 0
      IsBefore a j = (rk.rank j < rk.rank a.comp) × TermDivides (lead_of j) (lead_times s a)

      pub search_before : (a : Term) → IsTermWithin (length s.members) a
          → Found (λ j. (rk.rank j < rk.rank a.comp) × TermDivides (lead_of j) (lead_times s a)) (length s.members)
          ⊎ C a
      search_before a h = search (IsBefore a) (length s.members) (λ j x y.
          elim (cases_lt (rk.rank j) (rk.rank a.comp)) [
            | inl l ↦ elim (term_divides-decided (lead_of j) (lead_times s a) (lead-in j x y).0 (top-in a h).0) [
              | inl t ↦ inl (l, t)
              | inr none ↦ inr (λ p. none p.1)
            ]
            | inr g ↦ inr (λ p. absurd (omega (arith, g, p.0)))
          ])

      -- the induced order: by the leads, then by the ranks
      abbrev pub Below : Term → Term → Type 0
      Below x y =
          (cmp (lead_times s x) (lead_times s y) ≡ Less)
          ⊎ ((lead_times s x ≡ lead_times s y) × (rk.rank x.comp < rk.rank y.comp))

      abbrev pub IsLess : Term → Term × F → Type 0
      IsLess a t = Q t.0 × (size t.0 < size a) × Below t.0 a

      -- the symbol is a multiple of the one of a reduced pair
      pub record IsSteppable (a : Term) : Type 0 where
        pub place : ℕ
        pub low : 1 ≤ place
        pub high : place ≤ length s.members
        pub before : rk.rank place < rk.rank a.comp
        pub same_comp : (lead_of place).comp ≡ (lead_of a.comp).comp
        pub factor : Monomial
        pub factor_monomial : IsMonomial factor
        pub divides : times factor (pair_symbol a.comp place) ≡ a
        pub reduced : IsReducedPair place a.comp

      pub steppable : (a : Term) → Q a → (j : ℕ) → 1 ≤ j → j ≤ length s.members → rk.rank j < rk.rank a.comp
          → TermDivides (lead_of j) (lead_times s a) → IsSteppable a
      steppable a q j low high before divides =
          let wi = lead-in a.comp q.0.1 q.0.2 in
          let wj = lead-in j low high in
          let r = common vars a.mono divides.0 (lead_of a.comp).mono (lead_of j).mono q.0.0 divides.1 wi.0 wj.0 (sym (ap (λ t. t.mono) divides.2)) in
          let up = pair_symbol a.comp j in
          let is_a : times r.0 up ≡ a = (λ k. record { mono = r.2 k; comp = a.comp }) in
          let degrees = sym (ap (λ t. degree_of M (lead_times s t)) is_a) ∙ top-degree r.0 up r.1 (pair_symbol-in a.comp j q.0.1 q.0.2 low high) in
          let c = pairs j a.comp low high q.0.1 q.0.2 before (ap (λ t. t.comp) divides.2) (omega (arith, degrees, q.1)) in
          let e = product_assoc r.0 c.factor (cofactor (lead_of a.comp).mono (lead_of c.place).mono) ∙ ap (product r.0) c.divides ∙ r.2 in
          record {
            place = c.place;
            low = c.low;
            high = c.high;
            before = c.before;
            same_comp = c.same_comp;
            factor = product r.0 c.factor;
            factor_monomial = product-monomial r.0 c.factor r.1 c.factor_monomial;
            divides = λ k. record { mono = e k; comp = a.comp };
            reduced = c.reduced;
          }

      module _ (a : Term) (q : Q a) (st : IsSteppable a) where
        abbrev up : Term
        up = pair_symbol a.comp st.place

        abbrev down : Term
        down = pair_symbol st.place a.comp

        up_in : IsTermWithin (length s.members) up
        up_in = pair_symbol-in a.comp st.place q.0.1 q.0.2 st.low st.high

        down_in : IsTermWithin (length s.members) down
        down_in = pair_symbol-in st.place a.comp st.low st.high q.0.1 q.0.2

        -- the lead of a is the multiple of the lcm
        lead_a : lead_times s a ≡ times st.factor (lead_times s up)
        lead_a = ap (lead_times s) (sym st.divides) ∙ top-times st.factor up

        degrees : degree_of M (lead_times s a) ≡ degree st.factor + degree_of M (lead_times s up)
        degrees = ap (λ t. degree_of M (lead_times s t)) (sym st.divides) ∙ top-degree st.factor up st.factor_monomial up_in

        first_smaller : (c : F) → IsLess a (times st.factor down, c)
        first_smaller c =
            let b = times st.factor down in
            let f : lead_times s b ≡ lead_times s a =
            top-times st.factor down
            ∙ ap (times st.factor) (pair_top a.comp st.place (lead-in a.comp q.0.1 q.0.2).0 (lead-in st.place st.low st.high).0 st.same_comp)
            ∙ sym lead_a in
            let e = ap (degree_of M) f in
            let same_height : (x i j : ℕ) → i < j → x + i < x + j = λ x i j l. omega arith in (
              (times-within (length s.members) st.factor down st.factor_monomial down_in, omega (arith, e, q.1)),
              subst (λ t. height M t * suc rk.most + rk.rank st.place < size a) (sym f) (same_height (height M (lead_times s a) * suc rk.most) _ _ st.before),
              inr (f, st.before),
            )

        rest_smaller : (t : Term) → IsLower st.place a.comp t → (c : F) → IsLess a (times st.factor t, c)
        rest_smaller t p c =
            let b = times st.factor t in
            let b_in = times-within (length s.members) st.factor t st.factor_monomial p.0 in
            let db : degree_of M (lead_times s b) ≡ degree_of M (lead_times s a) =
            top-degree st.factor t st.factor_monomial p.0 ∙ ap (λ x. degree st.factor + x) p.1 ∙ sym degrees in
            let below : cmp (lead_times s b) (lead_times s a) ≡ Less =
            (λ k. cmp (top-times st.factor t k) (lead_a k))
            ∙ order.keeps_products st.factor (lead_times s t) (lead_times s up) st.factor_monomial (top-in t p.0) (top-in up up_in) p.2 in
            let rises = height-less M L (lead_times s b) (lead_times s a) (top-in b b_in) (top-in a q.0) db below in (
              (b_in, omega (arith, db, q.1)),
              lower_size rk.most (height M (lead_times s b)) (height M (lead_times s a)) (rk.rank t.comp) (rk.rank a.comp) rises (rk.rank_most t.comp p.0.1 p.0.2),
              inl below,
            )

        abbrev pub StepTo : Type 0
        StepTo = (ys : List (Term × F)) × AreCongruent T R ((a, ring.one) ∷ []) ys × All (IsLess a) ys × HasValues ring ys

        pub stepped : StepTo
        stepped =
            let pr = st.reduced in
            let m = st.factor in
            let ys = (down, pr.factor) ∷ pr.rest in
            let sh = congruent-shifted laws comm R rs.space m (λ xs r. rs.closed m xs st.factor_monomial r) _ ys pr.cong in (
              shifted m ys,
              subst (λ t. AreCongruent T R ((t, ring.one) ∷ []) (shifted m ys)) st.divides sh,
              All-cons (IsLess a) (times m down, pr.factor) (shifted m pr.rest) (first_smaller pr.factor)
                  (All-map (IsLess a) (λ t. (times m t.0, t.1)) pr.rest
                  (All-weaker (λ (t : Term × F). IsLower st.place a.comp t.0) (λ t. IsLess a (times m t.0, t.1)) (λ t p. rest_smaller t.0 p t.1) pr.rest pr.lower)),
              sh.right,
            )

      step : (a : Term) → Q a → Step T Q C size (AreCongruent T R) cong a
      step a q =
          elim (search_before a q.0) [
            | inl f ↦
                let st = stepped a q (steppable a q f.0 f.1 f.2 f.3.0 f.3.1) in
                inr (st.0, st.1, All-weaker (IsLess a) (λ t. Q t.0 × (size t.0 < size a)) (λ t p. (p.0, p.1)) st.0 st.2, st.3)
            | inr w ↦ inl w
          ]

      -- A combination of degree at most d is a relation, or its image has the lead of a multiple of a member.
      pub criterion : (xs : List (Term × F)) → HasValues ring xs → All (λ t. Q t.0) xs
          → AreCongruent T R xs [] ⊎ HasLead T symbols_led C xs
      unfolding symbols_led
      criterion xs v h =
          let r = rewrite_all T Q C size (AreCongruent T R) cong step xs v h in
          zero_or_lead T symbols_led C canonical-apart (AreCongruent T R) cong
          (λ ys zs b c. weighted-congruent T R rs.space (on_member b) (on_member-value b) (λ us m. rs.relations us b m) ys zs c)
          (λ ys vy e. congruent_same T R rs.space ys [] vy (All-nil (λ (t : Term × F). ring.IsValue t.1)) e) xs r.0 r.1 r.2 r.3
