-- The induced order is a term order. The greatest term of a relation is a multiple of that of the relation of a pair.
use Rattle.std.specs.Prelude.{◌≡◌, ◌≢◌, ◌⊎◌, ℕ, ◌+◌, ◌-◌, ◌<◌, ◌≤◌, List, [], ◌∷◌, length, map, All, Contains, slice_index_or}
use Rattle.std.specs.declared.cmp.Ordering.{Ordering}
use Rattle.std.specs.declared.cmp.Ordering.TheVariants.{Less, Equal, Greater}
use Rattle.std.specs.Ordering.{nat_cmp, ordering_then, ordering_reverse}
use Rattle.std.specs.Cmp.{nat_cmp_is, nat_cmp_total, tied_itself}
use Rattle.std.specs.FinMap.{nat_cmp-IsAntisymmetric}
use Rattle.std.proofs.lemmas.Bool.{cases_eq, cases_lt}
use Rattle.std.proofs.lemmas.List.{get_or-map}
use Rattle.std.proofs.lemmas.List.Elements.{All-cons, All-contains, All-weaker}
use mathlib.Core.Logic.{inl, inr}
use mathlib.Core.Path.{refl, sym, ap, ◌∙◌, subst}
use native.Mathlib.Omega.{arith}
use Rattle.hp_algebra.specs.Ring.{IsRing, IsCommutative}
use Rattle.hp_mono.specs.declared.term.Term.{Term}
use Rattle.hp_mono.specs.Monomials.{Monomial, IsMonomial, product}
use Rattle.hp_mono.specs.TermOrders.{IsTermOrder, IsTermWithin, TermDivides, times}
use Rattle.hp_mono.proofs.MonomialLaws.{cancel_product}
use Rattle.hp_mono.proofs.TermLaws.{times-within}
use Rattle.hp_sums.specs.FiniteSums.{total}
use Rattle.hp_sums.proofs.SumSetting.{SumSetting}
use Rattle.hp_sums.proofs.EqualTotals.{eq-itself, total-absent}
use Rattle.hp_algebra.proofs.Rings.{zero_add}
use Rattle.hp_module.specs.Vectors.{Vector, IsVector, combination, zero_vector}
use Rattle.hp_module.specs.FreeModules.{FreeModule, IsFreeModule, as_listed, coefficient_at, degree_of, terms}
use Rattle.hp_module.specs.Leads.{AreLed, IsGreatestTerm, WithLeads, lead_at, lead_times, no_term}
use Rattle.hp_module.specs.InducedOrders.{induced, relation_module}
use Rattle.hp_module.proofs.VectorSums.{term_setting, terms-values}
use Rattle.hp_module.proofs.VectorCoefficients.{coefficient-zero, within}
use Rattle.hp_module.proofs.GreatestTerms.{greatest-at, greatest-from}
use Rattle.hp_module.proofs.OrderedTerms.{greater-back, less-back}
use Rattle.hp_module.proofs.Criterion.{Found, IsLower, Ranking, lead-in, lead_of, pair_symbol, pair_symbol-in, pair_top, top-in, top-times}
use Rattle.hp_module.proofs.GroebnerLaw.{AreRelations, IsPairRelation, IsUpTo, PairsUpTo, R, combination-symbols, covers, relation_space}
use Rattle.hp_module.proofs.Schreyer.{schreyer}

then_less : (r q : Ordering) → ordering_then r q ≡ Less → (r ≡ Less) ⊎ ((r ≡ Equal) × (q ≡ Less))
then_less Less q e = inl refl
then_less Equal q e = inr (refl, e)
then_less Greater q e = absurd (cc)

then_equal : (r q : Ordering) → ordering_then r q ≡ Equal → (r ≡ Equal) × (q ≡ Equal)
then_equal Less q e = absurd (cc)
then_equal Equal q e = (refl, e)
then_equal Greater q e = absurd (cc)

then_reverse : (r q : Ordering)
    → ordering_then (ordering_reverse r) (ordering_reverse q) ≡ ordering_reverse (ordering_then r q)
then_reverse Less q = refl
then_reverse Equal q = refl
then_reverse Greater q = refl

less_rank : (x y : ℕ) → nat_cmp x y ≡ Less → x < y
less_rank x y e =
    elim (cases_lt x y) [
      | inl l ↦ l
      | inr g ↦ elim (cases_eq x y) [
        | inl q ↦ let p : Equal ≡ Less = nat_cmp_is x y Equal q ∙ e in absurd (cc)
        | inr o ↦ let p : Greater ≡ Less = nat_cmp_is x y Greater (omega (arith, g, o)) ∙ e in absurd (cc)
      ]
    ]

module _ {F : Type 0} {M : FreeModule F} (L : IsFreeModule M) {s : WithLeads F} (led : AreLed M s)
    (rk : Ranking (length s.members)) where
  open M use {ring, width, cmp}

  abbrev order : IsTermOrder width cmp
  order = L.order

  abbrev laws : IsRing ring
  laws = L.field.is_ring

  abbrev comm : IsCommutative ring
  comm = L.field.commutes

  abbrev top : Term → Term
  top a = lead_times s a

  abbrev ranks : Term → Term → Ordering
  ranks a b = nat_cmp (rk.rank a.comp) (rk.rank b.comp)

  abbrev ind : Term → Term → Ordering
  ind = induced cmp s rk.rank

  abbrev In : Term → Type 0
  In a = IsTermWithin (length s.members) a

  same_top : (a b : Term) → In a → In b → cmp (top a) (top b) ≡ Equal → top a ≡ top b
  same_top a b ha hb e = order.same (top a) (top b) (top-in L led a ha) (top-in L led b hb) e

  induced-same : (a b : Term) → In a → In b → ind a b ≡ Equal → a ≡ b
  induced-same a b ha hb e =
      let t = then_equal (cmp (top a) (top b)) (ranks a b) e in
      let tops = same_top a b ha hb t.0 in
      let c : a.comp ≡ b.comp = rk.apart a.comp b.comp ha.1 ha.2 hb.1 hb.2 (nat_cmp-IsAntisymmetric (rk.rank a.comp) (rk.rank b.comp) t.1) in
      let w = lead-in L led a.comp ha.1 ha.2 in
      let p : product a.mono (lead_of L led a.comp).mono ≡ product b.mono (lead_of L led a.comp).mono =
      ap (λ u. u.mono) tops ∙ ap (λ k. product b.mono (lead_of L led k).mono) (sym c) in
      let m = cancel_product a.mono b.mono (lead_of L led a.comp).mono (ha.0 ∙ sym w.0) (hb.0 ∙ sym w.0) p in
      λ i. record { mono = m i; comp = c i }

  -- what is less in the induced order
  pub induced-less : (a b : Term) → In a → In b → induced cmp s rk.rank a b ≡ Less
      → (cmp (top a) (top b) ≡ Less) ⊎ ((top a ≡ top b) × (rk.rank a.comp < rk.rank b.comp))
  induced-less a b ha hb e =
      elim (then_less (cmp (top a) (top b)) (ranks a b) e) [
        | inl p ↦ inl p
        | inr p ↦ inr (same_top a b ha hb p.0, less_rank (rk.rank a.comp) (rk.rank b.comp) p.1)
      ]

  pub less-induced : (a b : Term) → cmp (top a) (top b) ≡ Less → induced cmp s rk.rank a b ≡ Less
  less-induced a b e = ap (λ r. ordering_then r (ranks a b)) e

  -- equal leads compare as the ranks
  tie-induced : (a b : Term) → In b → top a ≡ top b → ind a b ≡ ranks a b
  tie-induced a b hb e = ap (λ r. ordering_then r (ranks a b)) (ap (λ t. cmp t (top b)) e ∙ order.itself (top b) (top-in L led b hb))

  induced-transitive : (a b c : Term) → In a → In b → In c → ind a b ≡ Less → ind b c ≡ Less → ind a c ≡ Less
  induced-transitive a b c ha hb hc e f =
      let ta = top-in L led a ha in
      let tb = top-in L led b hb in
      let tc = top-in L led c hc in
      elim (induced-less a b ha hb e) [
        | inl p ↦ elim (induced-less b c hb hc f) [
          | inl q ↦ less-induced a c (order.transitive (top a) (top b) (top c) ta tb tc p q)
          | inr q ↦ less-induced a c (ap (cmp (top a)) (sym q.0) ∙ p)
        ]
        | inr p ↦ elim (induced-less b c hb hc f) [
          | inl q ↦ less-induced a c (ap (λ t. cmp t (top c)) p.0 ∙ q)
          | inr q ↦ tie-induced a c hc (p.0 ∙ q.0) ∙ sym (nat_cmp_is (rk.rank a.comp) (rk.rank c.comp) Less (omega (arith, p.1, q.1)))
        ]
      ]

  induced-products : (m : Monomial) (a b : Term) → IsMonomial m → In a → In b → ind a b ≡ Less
      → ind (times m a) (times m b) ≡ Less
  induced-products m a b im ha hb e =
      let tops : cmp (top (times m a)) (top (times m b)) ≡ cmp (times m (top a)) (times m (top b)) =
      (λ i. cmp (top-times L led m a i) (top-times L led m b i)) in
      elim (induced-less a b ha hb e) [
        | inl p ↦ less-induced (times m a) (times m b) (tops ∙ order.keeps_products m (top a) (top b) im (top-in L led a ha) (top-in L led b hb) p)
        | inr p ↦ tie-induced (times m a) (times m b) (times-within (length s.members) m b im hb)
            (top-times L led m a ∙ ap (times m) p.0 ∙ sym (top-times L led m b))
            ∙ sym (nat_cmp_is (rk.rank a.comp) (rk.rank b.comp) Less p.1)
      ]

  induced-divisor : (a b : Term) → In a → In b → TermDivides b a → ind a b ≢ Less
  induced-divisor a b ha hb d e =
      let comps : b.comp ≡ a.comp = ap (λ t. t.comp) d.2 in
      let tops : times d.0 (top b) ≡ top a = sym (top-times L led d.0 b) ∙ ap (lead_times s) d.2 in
      elim (induced-less a b ha hb e) [
        | inl p ↦ order.not_below_divisor (top a) (top b) (top-in L led a ha) (top-in L led b hb) (d.0, d.1, tops) p
        | inr p ↦ absurd (omega (arith, subst (λ k. rk.rank a.comp < rk.rank k) comps p.1))
      ]

  -- The induced order is a term order.
  pub induced-is_order : IsTermOrder (length s.members) (induced cmp s rk.rank)
  induced-is_order = record {
    same = induced-same;
    itself = λ a h. tie-induced a a h refl ∙ tied_itself nat_cmp_total (rk.rank a.comp);
    opposite = λ a b ha hb.
        let t = order.opposite (top a) (top b) (top-in L led a ha) (top-in L led b hb) in
        let r = nat_cmp_total.antisymm (rk.rank a.comp) (rk.rank b.comp) in
        (λ i. ordering_then (t i) (r i)) ∙ then_reverse (cmp (top b) (top a)) (ranks b a);
    transitive = induced-transitive;
    keeps_products = induced-products;
    not_below_divisor = induced-divisor;
  }

  pub relation_module-laws : IsFreeModule (relation_module M s rk.rank)
  relation_module-laws = record { field = L.field; order = induced-is_order }

  -- the degree of a term of a relation is that of the lead of the symbol
  pub relation-degree : (a : Term) → In a → degree_of (relation_module M s rk.rank) a ≡ degree_of M (lead_times s a)
  relation-degree a h =
      let w = lead-in L led a.comp h.1 h.2 in
      let l : a.comp - 1 < length s.leads = omega (arith, h.1, h.2, led.same_length) in
      let e = get_or-map (degree_of M) s.leads (a.comp - 1) no_term 0 l in
      let d = Rattle.hp_module.proofs.OrderedTerms.degree-times M a.mono (lead_at s (a.comp - 1)) h.0 w.0 in
      omega (arith, e, d)

  -- ---- the leads of relations

  module _ {rels : List (Vector F)} (ar : AreRelations L led rels) (d : ℕ)
      (pairs : PairsUpTo L led rels rk.rank d) where
    -- The greatest term of a relation is a multiple of that of the relation of a pair.
    pub law_schreyer : (qs : Vector F) → IsVector ring (length s.members) qs → IsUpTo L led d qs
        → combination ring width qs s.members ≡ zero_vector ring width → (t : Term) (x : F)
        → IsGreatestTerm (induced cmp s rk.rank) qs t x
        → Found (λ j. (rk.rank j < rk.rank t.comp) × ((lead_of L led j).comp ≡ (lead_of L led t.comp).comp)
        × TermDivides (pair_symbol L led t.comp j) t) (length s.members)
    law_schreyer qs f u z t x gt =
        let ML = relation_module-laws in
        let at = greatest-at ML qs t x f gt in
        let qw = within laws comm (length s.members) qs f in
        let low : degree_of M (lead_times s t) ≤ d =
        All-contains (λ (a : Term × F). degree_of M (lead_times s a.0) ≤ d) (terms qs) (t, x) u gt.occurs in
        let cov = covers L led ar rk d pairs in
        let rs = relation_space L led ar in
        let st = schreyer L led (R L led ar) rs rk d cov t (at.0, low) (terms qs) (terms-values laws comm 1 qs f.1)
        (λ k e l. side t at.0 (slice_index_or (terms qs) k e).0 (qw k e l) (u k e l) (gt.greatest k e l))
        (λ y. at.2 (sym at.1 ∙ y))
        (λ b. sym (combination-symbols L led qs f b) ∙ ap (λ v. coefficient_at ring v b) z ∙ coefficient-zero laws comm width b) in
        (st.place, st.low, st.high, (st.before, st.same_comp, (st.factor, st.factor_monomial, st.divides)))
      where
        side : (t : Term) → In t → (w : Term) → In w → degree_of M (lead_times s w) ≤ d → ind t w ≢ Less
            → (w ≡ t) ⊎ ((In w × (degree_of M (lead_times s w) ≤ d))
            × ((cmp (top w) (top t) ≡ Less) ⊎ ((top w ≡ top t) × (rk.rank w.comp < rk.rank t.comp))))
        side t ht w hw l n =
            elim (ind t w) as (λ r. ind t w ≡ r → (w ≡ t) ⊎ ((In w × (degree_of M (lead_times s w) ≤ d))
            × ((cmp (top w) (top t) ≡ Less) ⊎ ((top w ≡ top t) × (rk.rank w.comp < rk.rank t.comp))))) [
              | Less ↦ λ e. absurd (n e)
              | Equal ↦ λ e. inl (sym (induced-same t w ht hw e))
              | Greater ↦ λ e. inr ((hw, l), induced-less w t hw ht (less-back induced-is_order t w ht hw e))
            ] refl

  -- The relation of a pair has the symbol of the later member as its greatest term.
  pub pair_lead : (j i : ℕ) → 1 ≤ j → j ≤ length s.members → 1 ≤ i → i ≤ length s.members → rk.rank j < rk.rank i
      → (lead_of L led j).comp ≡ (lead_of L led i).comp → (rel : Vector F) → IsVector ring (length s.members) rel
      → (r : IsPairRelation L led j i rel)
      → IsGreatestTerm (induced cmp s rk.rank) rel (pair_symbol L led i j) r.first
  pair_lead j i lj hj li hi before comps rel rv r =
      let T : SumSetting Term F = term_setting laws comm in
      let up = pair_symbol L led i j in
      let down = pair_symbol L led j i in
      let up_in = pair_symbol-in L led i j li hi lj hj in
      let down_in = pair_symbol-in L led j i lj hj li hi in
      let tops : top down ≡ top up = pair_top L led i j (lead-in L led i li hi).0 (lead-in L led j lj hj).0 comps in
      let rest : List (Term × F) = (down, r.second) ∷ r.rest in
      let Key : Term × F → Type 0 = λ u. ind u.0 up ≡ Less in
      let keys : All Key rest =
      All-cons Key (down, r.second) r.rest (tie-induced down up up_in tops ∙ sym (nat_cmp_is (rk.rank j) (rk.rank i) Less before))
      (All-weaker (λ (u : Term × F). IsLower L led j i u.0) Key (λ u p. less-induced u.0 up p.2) r.rest r.lower) in
      let itself : (u : Term) → In u → ind u u ≡ Equal = λ u h. induced-is_order.itself u h in
      let absent : total as_listed ring rest up ≡ ring.zero =
      total-absent T rest up (All-weaker Key (λ u. up ≢ u.0)
      (λ u k e. let x = sym (itself up up_in) ∙ ap (λ w. ind w up) e ∙ k in absurd (cc)) rest keys) in
      let at_up : coefficient_at ring rel up ≡ r.first =
      r.same up ∙ ap (λ z. Rattle.std.specs.Prelude.cond z (ring.add (total as_listed ring rest up) r.first) (total as_listed ring rest up)) (eq-itself T up)
      ∙ ap (λ u. ring.add u r.first) absent ∙ zero_add laws r.first r.first_value in
      subst (λ c. IsGreatestTerm (induced cmp s rk.rank) rel up c) at_up
      (greatest-from relation_module-laws rel up rv (λ z. r.first_nonzero (sym at_up ∙ z)) (λ b hb n e.
      n (r.same b ∙ total-absent T ((up, r.first) ∷ rest) b (All-cons (λ (u : Term × F). b ≢ u.0) (up, r.first) rest
      (λ q. let x = sym (itself up up_in) ∙ ap (ind up) (sym q) ∙ e in absurd (cc))
      (All-weaker Key (λ u. b ≢ u.0) (λ u k q.
      let x = induced-is_order.transitive up b up up_in hb up_in e (ap (λ w. ind w up) q ∙ k) in
      let y = sym (itself up up_in) ∙ x in absurd (cc)) rest keys)))))
