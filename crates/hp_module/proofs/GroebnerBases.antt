-- Gröbner bases: from relations that cover the critical pairs; members of the submodule leave no remainder; a homogeneous
-- combination is one whose symbols have its degree.
use Rattle.std.specs.Prelude.{◌≡◌, ◌≢◌, ℕ, ◌-◌, ◌<◌, ◌≤◌, max, nat_eq, Bool, true, false, cond, List, [], ◌∷◌, ◌++◌, filter, length, All, slice_index_or}
use Rattle.std.proofs.lemmas.Bool.{eqb-true, eqb-false}
use Rattle.std.proofs.lemmas.List.Elements.{All-nil, All-cons, All-head, All-tail, All-contains, All-filter, All-weaker}
use mathlib.Core.Logic.{inl, inr}
use mathlib.Core.Path.{refl, sym, ap, ◌∙◌, subst}
use native.Mathlib.Omega.{arith}
use Rattle.hp_algebra.specs.Ring.{IsRing, IsCommutative}
use Rattle.hp_algebra.proofs.Rings.{mul_zero, neg_mul, zero_add}
use Rattle.hp_mono.specs.declared.term.Term.{Term}
use Rattle.hp_mono.specs.TermOrders.{IsTermWithin, TermDivides}
use Rattle.hp_sums.specs.FiniteSums.{HasValues}
use Rattle.hp_sums.proofs.SumSetting.{SumSetting}
use Rattle.hp_sums.proofs.Collected.{total-append}
use Rattle.hp_sums.proofs.WeightedSums.{scaled, scaled-values, weighted, weighted-value}
use Rattle.hp_sums.proofs.EqualTotals.{total-absent, total-scaled}
use Rattle.hp_module.specs.Vectors.{Vector, IsVector, IsGenerated, combination, vector_plus, zero_vector}
use Rattle.hp_module.specs.FreeModules.{FreeModule, IsFreeModule, IsIn, HasDegree, coefficient_at, degree_of, terms}
use Rattle.hp_module.specs.Leads.{AreLed, IsGreatestTerm, IsGroebner, WithLeads, lead_at, lead_times, member_at}
use Rattle.hp_module.specs.Divisions.{IsDivided}
use Rattle.hp_module.proofs.VectorSums.{term_setting, terms-values}
use Rattle.hp_module.proofs.VectorCoefficients.{all-terms, coefficient-plus, coefficient-value, combination-vector, family, family-values, within}
use Rattle.hp_module.proofs.GreatestTerms.{zero_or_greatest}
use Rattle.hp_module.proofs.DivisionSteps.{multiple-other}
use Rattle.hp_module.proofs.OrderedTerms.{degree-times}
use Rattle.hp_module.proofs.Symbols.{from_symbols, from_symbols_with, symbolic-same, symbolic-space, to_symbols}
use Rattle.hp_module.proofs.Criterion.{Ranking, lead-in, lead_of, on_member, on_member-value}
use Rattle.hp_module.proofs.GroebnerLaw.{AreRelations, PairsUpTo, combination-symbols, law_leads, law_relations}

module _ {F : Type 0} {M : FreeModule F} (L : IsFreeModule M) {s : WithLeads F} (led : AreLed M s) where
  open M use {ring, width, cmp}

  abbrev laws : IsRing ring
  laws = L.field.is_ring

  abbrev comm : IsCommutative ring
  comm = L.field.commutes

  abbrev T : SumSetting Term F
  T = term_setting laws comm

  abbrev Val : Term × F → Type 0
  Val t = ring.IsValue t.1

  abbrev co : Vector F → Term → F
  co v b = coefficient_at ring v b

  abbrev top_degree : Term → ℕ
  top_degree a = degree_of M (lead_times s a)

  -- ---- the law for all degrees

  -- the degrees of finitely many symbols are bounded
  pub top_bound : (xs : List (Term × F)) → (d : ℕ) × All (λ t. degree_of M (lead_times s t.0) ≤ d) xs
  top_bound [] = (0, All-nil (λ (t : Term × F). top_degree t.0 ≤ 0))
  top_bound (x ∷ xs) =
      let r = top_bound xs in
      let d = max (top_degree x.0) r.0 in
      let first : (a b : ℕ) → a ≤ max a b = λ a b. omega arith in
      let later : (a b c : ℕ) → c ≤ b → c ≤ max a b = λ a b c l. omega arith in
      let P : Term × F → Type 0 = λ t. top_degree t.0 ≤ d in
      (d, All-cons P x xs (first (top_degree x.0) r.0) (All-weaker (λ (t : Term × F). top_degree t.0 ≤ r.0) P (λ t l. later (top_degree x.0) r.0 _ l) xs r.1))

  module _ {rels : List (Vector F)} (ar : AreRelations L led rels) (rk : Ranking (length s.members))
      (pairs : (d : ℕ) → PairsUpTo L led rels rk.rank d) where
    -- Relations that cover all critical pairs make the members a Gröbner basis,
    pub is_groebner : IsGroebner M s
    is_groebner v t c g gt =
        let b = top_bound (terms g.0) in
        let r = law_leads L led ar rk b.0 (pairs b.0) g.0 g.1 b.1 t c (subst (λ w. IsGreatestTerm cmp w t c) g.2 gt) in
        (r.0 - 1, omega (arith, r.1, r.2), r.3)

    -- and generate all relations.
    pub all_relations : (qs : Vector F) → IsVector ring (length s.members) qs
        → combination ring width qs s.members ≡ zero_vector ring width → IsGenerated ring (length s.members) rels qs
    all_relations qs f z =
        let b = top_bound (terms qs) in
        law_relations L led ar rk b.0 (pairs b.0) qs f b.1 z

  -- ---- remainders

  -- x is what is left when the combination y is taken from the sum
  difference : (x y : F) → ring.IsValue x → ring.IsValue y
      → ring.add (ring.add y x) (ring.mul (ring.neg ring.one) y) ≡ x
  difference x y vx vy =
      let n = laws.neg_value y vy in
      ap (ring.add (ring.add y x)) (neg_mul laws ring.one y laws.one_value vy ∙ ap ring.neg (laws.one_mul y vy))
      ∙ ap (λ u. ring.add u (ring.neg y)) (laws.add_comm y x vy vx) ∙ laws.add_assoc x y _ vx vy n
      ∙ ap (ring.add x) (laws.add_neg y vy) ∙ laws.add_zero x vx

  -- what is left of a member of the submodule is one
  pub rest_generated : (v r qs : Vector F) → IsGenerated ring width s.members v → IsVector ring (length s.members) qs
      → IsIn M r → v ≡ vector_plus ring (combination ring width qs s.members) r → IsGenerated ring width s.members r
  rest_generated v r qs g f hr e =
      let comb = combination ring width qs s.members in
      let hc = combination-vector laws comm width qs s.members f.1 led.vectors in
      let n = laws.neg_value ring.one laws.one_value in
      let a = to_symbols laws comm width s.members led.vectors v g in
      let b = to_symbols laws comm width s.members led.vectors comb (qs, f, refl) in
      let fam = family laws comm s.members in
      let fv = family-values laws comm width s.members led.vectors in
      let space = symbolic-space laws comm fam fv (length s.members) in
      let sv = scaled-values T (ring.neg ring.one) (terms comb) n b.values in
      from_symbols laws comm width s.members led.vectors r hr
      (symbolic-same laws comm fam fv (length s.members) (terms v ++ scaled ring (ring.neg ring.one) (terms comb)) (terms r) (terms-values laws comm 1 r hr.1)
      (λ x.
      let sum : co v x ≡ ring.add (co comb x) (co r x) = ap (λ w. co w x) e ∙ coefficient-plus laws comm width comb r x hc hr in
      let tail = total-scaled T (ring.neg ring.one) (terms comb) x n b.values in
      sym (total-append T (terms v) (scaled ring (ring.neg ring.one) (terms comb)) x a.values sv ∙ (λ i. ring.add (sum i) (tail i))
      ∙ difference (co r x) (co comb x) (coefficient-value laws comm width r x hr) (coefficient-value laws comm width comb x hc)))
      (space.sum _ _ a (space.multiple (ring.neg ring.one) _ n b)))

  -- In a Gröbner basis a member of the submodule leaves no remainder.
  pub remainder_zero : IsGroebner M s → {v qs r : Vector F} → IsGenerated ring width s.members v → IsDivided M v s qs r
      → r ≡ zero_vector ring width
  remainder_zero groebner {v} {qs} {r} g p =
      elim (zero_or_greatest L r p.rest) [
        | inl z ↦ z
        | inr t ↦
            let d = groebner r t.0 t.1 (rest_generated v r qs g p.quotients p.rest p.sum) t.2 in
            absurd (All-contains (λ (a : Term × F). ¬ (TermDivides (lead_at s d.0) a.0)) (terms r) (t.0, t.1)
            (p.free d.0 Rattle.hp_module.specs.Leads.no_term (omega (arith, d.1, led.same_length))) t.2.occurs d.2)
      ]

  -- ---- the homogeneous part of a combination

  abbrev In : Term × F → Type 0
  In t = IsTermWithin (length s.members) t.0

  -- a symbol has no coefficient in another degree
  pub symbol-other : (a b : Term) → IsTermWithin (length s.members) a → top_degree a ≢ degree_of M b
      → on_member L led b a ≡ ring.zero
  symbol-other a b h n =
      let l : a.comp - 1 < length s.members = omega (arith, h.1, h.2) in
      let g = led.led (a.comp - 1) l in
      let w = lead-in L led a.comp h.1 h.2 in
      multiple-other L (member_at s (a.comp - 1)) (lead_of L led a.comp) g.0 a.mono (led.vectors (a.comp - 1) [] l) g.1 h.0
      (degree_of M (lead_of L led a.comp)) (led.homogeneous (a.comp - 1) l) b
      (λ e. n (degree-times M a.mono (lead_of L led a.comp) h.0 w.0 ∙ sym e))

  abbrev at : Term → List (Term × F) → F
  at b xs = weighted ring (on_member L led b) xs

  -- the symbols of one degree
  abbrev pub part : ℕ → List (Term × F) → List (Term × F)
  part e xs = filter (λ t. nat_eq (degree_of M (lead_times s t.0)) e) xs

  -- the symbols of other degrees add nothing in degree e
  part-at : (e : ℕ) (b : Term) → degree_of M b ≡ e → (xs : List (Term × F)) → HasValues ring xs → All In xs
      → at b xs ≡ at b (part e xs)
  part-at e b db [] v h = refl
  part-at e b db (x ∷ xs) v h =
      let r = part-at e b db xs (All-tail Val x xs v) (All-tail In x xs h) in
      elim (nat_eq (top_degree x.0) e) as (λ c. nat_eq (top_degree x.0) e ≡ c → at b (x ∷ xs) ≡ at b (cond c (x ∷ part e xs) (part e xs))) [
        | true ↦ λ p. ap (ring.add (ring.mul x.1 (on_member L led b x.0))) r
        | false ↦ λ p.
            let z = symbol-other x.0 b (All-head In x xs h) (λ q. eqb-false (top_degree x.0) e p (q ∙ db)) in
            ap (λ u. ring.add (ring.mul x.1 u) (at b xs)) z ∙ ap (λ u. ring.add u (at b xs)) (mul_zero laws x.1 (All-head Val x xs v))
            ∙ zero_add laws (at b xs) (weighted-value T (on_member L led b) (on_member-value L led b) xs (All-tail Val x xs v)) ∙ r
      ] refl

  part-degree : (e : ℕ) (xs : List (Term × F)) → All (λ t. top_degree t.0 ≡ e) (part e xs)
  part-degree e [] = All-nil (λ (t : Term × F). top_degree t.0 ≡ e)
  part-degree e (x ∷ xs) =
      let P : Term × F → Type 0 = λ t. top_degree t.0 ≡ e in
      elim (nat_eq (top_degree x.0) e) as (λ c. nat_eq (top_degree x.0) e ≡ c → All P (cond c (x ∷ part e xs) (part e xs))) [
        | true ↦ λ p. All-cons P x (part e xs) (eqb-true (top_degree x.0) e p) (part-degree e xs)
        | false ↦ λ p. part-degree e xs
      ] refl

  -- A homogeneous combination is one whose symbols all have its degree.
  pub homogeneous_combination : (e : ℕ) (v : Vector F) → IsGenerated ring width s.members v → HasDegree M e v
      → (ps : Vector F) × IsVector ring (length s.members) ps × (v ≡ combination ring width ps s.members)
      × All (λ t. degree_of M (lead_times s t.0) ≡ e) (terms ps)
  homogeneous_combination e v g h =
      let qs = g.0 in
      let f = g.1 in
      let hv = subst (IsIn M) (sym g.2) (combination-vector laws comm width qs s.members f.1 led.vectors) in
      let test : Term × F → Bool = λ t. nat_eq (degree_of M (lead_times s t.0)) e in
      let qv = terms-values laws comm 1 qs f.1 in
      let qw = within laws comm (length s.members) qs f in
      let pv = All-filter test Val (terms qs) qv in
      let pw = All-filter test In (terms qs) qw in
      let pd = part-degree e (terms qs) in
      let whole : (b : Term) → co v b ≡ at b (terms qs) = λ b. ap (λ w. co w b) g.2 ∙ combination-symbols L led qs f b in
      let same : (b : Term) → co v b ≡ at b (part e (terms qs)) =
      λ b. elim (nat_eq (degree_of M b) e) as (λ c. nat_eq (degree_of M b) e ≡ c → co v b ≡ at b (part e (terms qs))) [
        | true ↦ λ p. whole b ∙ part-at e b (eqb-true (degree_of M b) e p) (terms qs) qv qw
        | false ↦ λ p.
            let n = eqb-false (degree_of M b) e p in
            total-absent T (terms v) b (All-weaker (λ (t : Term × F). degree_of M t.0 ≡ e) (λ t. b ≢ t.0) (λ t d q. n (ap (degree_of M) q ∙ d)) (terms v) h)
            ∙ sym (Rattle.hp_sums.proofs.WeightedSums.weighted-none T (on_member L led b) (part e (terms qs)) pv
            (λ i t l. symbol-other (slice_index_or (part e (terms qs)) i t).0 b (pw i t l) (λ q. n (sym q ∙ pd i t l))))
      ] refl in
      let r = from_symbols_with laws comm width s.members led.vectors v hv (record {
        symbols = part e (terms qs);
        symbol_values = pv;
        inside = pw;
        values = terms-values laws comm 1 v hv.1;
        same = same;
      }) in (
        r.0,
        r.1,
        r.2,
        all-terms laws comm (length s.members) r.0 (λ t. top_degree t ≡ e) r.1 (λ b hb n.
            elim (nat_eq (top_degree b) e) as (λ c. nat_eq (top_degree b) e ≡ c → top_degree b ≡ e) [
              | true ↦ λ p. eqb-true (top_degree b) e p
              | false ↦ λ p. absurd (n (r.3 b ∙ total-absent T (part e (terms qs)) b (All-weaker (λ (t : Term × F). top_degree t.0 ≡ e) (λ t. b ≢ t.0)
                  (λ t d q. eqb-false (top_degree b) e p (ap (λ u. top_degree u) q ∙ d)) (part e (terms qs)) pd)))
            ] refl),
      )
