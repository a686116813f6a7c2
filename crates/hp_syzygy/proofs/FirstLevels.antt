-- The first level: the members of a reduced basis, where each component stands for itself.
use Rattle.std.specs.Prelude.{◌≡◌, ℕ, zero, suc, ◌+◌, ◌-◌, ◌<◌, ◌≤◌, nat_le, true, false, if◌then◌else◌, List, [], ◌∷◌, map, length, replicate, All, slice_index_or}
use Rattle.std.specs.declared.cmp.Ordering.{Ordering}
use Rattle.std.specs.declared.cmp.Ordering.TheVariants.{Less, Equal, Greater}
use Rattle.std.specs.Ordering.{nat_cmp, ordering_then}
use Rattle.std.specs.Cmp.{nat_cmp_total, tied_itself}
use Rattle.std.specs.List.{range_with_len}
use Rattle.std.proofs.lemmas.Bool.{leb-true}
use Rattle.std.proofs.lemmas.List.{get_or-map, get_or_default, length-map}
use Rattle.std.proofs.lemmas.List.Elements.{All-contains, All-map}
use Rattle.std.proofs.lemmas.List.FromFn.{get_or-range_with_len, length-range_with_len}
use Rattle.std.proofs.lemmas.Option.{slice_get-get_or}
use mathlib.Core.Path.{refl, sym, ap, ◌∙◌, subst}
use native.Mathlib.Omega.{arith}
use Rattle.hp_lists.specs.Lists.{one_to}
use Rattle.hp_algebra.specs.Ring.{RingOf, IsField, IsRing, IsCommutative}
use Rattle.hp_mono.specs.declared.term.Term.{Term}
use Rattle.hp_mono.specs.Monomials as mono
use Rattle.hp_mono.specs.Monomials.{Monomial, degree}
use Rattle.hp_mono.specs.TermOrders.{IsTermWithin, TermDivides, term_grevlex, times}
use Rattle.hp_mono.proofs.GrevlexLaws.{term_grevlex-is_order}
use Rattle.hp_mono.proofs.MonomialLaws.{product-one, product_comm}
use Rattle.hp_module.specs.Vectors.{Vector, IsVector, IsGenerated}
use Rattle.hp_module.specs.FreeModules.{FreeModule, IsFreeModule, HasDegree, degree_of, terms}
use Rattle.hp_module.specs.FallingTerms.{free_module}
use Rattle.hp_module.specs.Leads.{IsGreatestTerm, IsGroebner, IsLeastLead, IsReducedBasis, no_term}
use Rattle.hp_module.specs.Derivations.{IsVectorInVariables}
use Rattle.hp_module.specs.ElimOrders.{block, elimination_order}
use Rattle.hp_module.specs.EliminationLaws.{elimination-is_order}
use Rattle.hp_module.specs.ReducedBases.{Basis, IsBasis}
use Rattle.hp_module.proofs.EntryTerms.{terms_all}
use Rattle.hp_module.proofs.GreatestTerms.{greatest-degree}
use Rattle.hp_module.proofs.LeastLeads.{lead_divided}
use Rattle.hp_module.proofs.Symbols.{generated-vector}
use Rattle.hp_module.proofs.VectorCoefficients.{within}
use Rattle.hp_syzygy.specs.ChainOrders.{IsChain, chain_order, first_chain, full, rank_of, top_of, unit_term}
use Rattle.hp_syzygy.specs.ChainLaws.{chain-is_order}
use Rattle.hp_syzygy.specs.FrameLevels.{AreLeadsOf, IsLevel, Level, most_lead}
use Rattle.hp_syzygy.specs.VariableTests.{in_first}
use Rattle.hp_syzygy.proofs.AgreeingOrders.{Agree, agreeing-greatest}
use Rattle.hp_syzygy.proofs.FirstExponents.{first-drop, first-each}
use Rattle.hp_syzygy.proofs.LeadExponents.{exponent-degree, exponent_of}

-- ---- the chain

module _ (w : ℕ) where
  count : length (one_to w) ≡ w
  count = length-range_with_len 1 w

  place-at : (i d : ℕ) → i < w → slice_index_or (one_to w) i d ≡ suc i
  place-at i d l = get_or-range_with_len 1 w i d l ∙ omega arith

  pub first-width : length (map unit_term (one_to w)) ≡ w
  first-width = length-map (one_to w) unit_term ∙ count

  first-top : (i : ℕ) → 1 ≤ i → i ≤ w → top_of (first_chain w) i ≡ unit_term i
  first-top i a b =
      let l : i - 1 < w = omega (arith, a, b) in
      get_or-map unit_term (one_to w) (i - 1) 0 no_term (subst (λ n. i - 1 < n) (sym count) l)
      ∙ ap unit_term (place-at (i - 1) 0 l ∙ omega (arith, a))

  first-rank : (i : ℕ) → 1 ≤ i → i ≤ w → rank_of (first_chain w) i ≡ i
  first-rank i a b = place-at (i - 1) 0 (omega (arith, a, b)) ∙ omega (arith, a)

  first-full : (a : Term) → IsTermWithin w a → full (first_chain w) a ≡ a
  first-full a h =
      let p = product_comm a.mono mono.one ∙ product-one a.mono h.0 in
      ap (times a.mono) (first-top a.comp h.1 h.2) ∙ (λ k. record { mono = p k; comp = a.comp })

  pub first-is_chain : IsChain (first_chain w)
  first-is_chain = record {
    tops = All-map (IsTermWithin w) unit_term (one_to w) (λ k d l.
        let m = subst (λ n. k < n) count l in
        let e = place-at k d m in
        (refl, omega (arith, e), omega (arith, e, m)));
    one_each = sym (length-map (one_to w) unit_term);
    apart = λ i j a b e.
        let x = place-at i 0 (subst (λ n. i < n) first-width a) in
        let y = place-at j 0 (subst (λ n. j < n) first-width b) in
        omega (arith, x, y, e);
  }

  one_block : (c : ℕ) → 1 ≤ c → block 0 c ≡ 1
  one_block c l =
      elim (nat_le c 0) as (λ z. nat_le c 0 ≡ z → ◌≡◌ {A = ℕ} (if z then 0 else 1) 1) [
        | true ↦ λ e. absurd (let m = leb-true c 0 e in omega (arith, m, l))
        | false ↦ λ e. refl
      ] refl

  -- It is the elimination order with split 0.
  pub first-agrees : Agree w (chain_order (first_chain w)) (elimination_order 0)
  first-agrees a b ha hb =
      let fa = first-full a ha in
      let fb = first-full b hb in
      let ra = first-rank a.comp ha.1 ha.2 in
      let rb = first-rank b.comp hb.1 hb.2 in
      let ba = one_block a.comp ha.1 in
      let bb = one_block b.comp hb.1 in
      (λ i. ordering_then (term_grevlex (fa i) (fb i)) (nat_cmp (ra i) (rb i)))
      ∙ tie (term_grevlex a b) refl
      ∙ (λ i. ordering_then (nat_cmp (sym bb i) (sym ba i)) (term_grevlex a b))
    where
      tie : (r : Ordering) → term_grevlex a b ≡ r → ordering_then (term_grevlex a b) (nat_cmp a.comp b.comp) ≡ term_grevlex a b
      tie Less e = ap (λ z. ordering_then z (nat_cmp a.comp b.comp)) e ∙ sym e
      tie Greater e = ap (λ z. ordering_then z (nat_cmp a.comp b.comp)) e ∙ sym e
      tie Equal e =
          let same = ap (λ t. t.comp) ((term_grevlex-is_order w).same a b ha hb e) in
          ap (λ z. ordering_then z (nat_cmp a.comp b.comp)) e
          ∙ ap (λ c. nat_cmp c b.comp) same ∙ tied_itself nat_cmp_total b.comp ∙ sym e

-- the components have degree 0
zero-degrees : (a n : ℕ) → replicate n 0 ≡ map (λ t. degree t.mono) (map unit_term (range_with_len a n))
zero-degrees a zero = refl
zero-degrees a (suc n) = ap (λ ds. 0 ∷ ds) (zero-degrees (a + 1) n)

zero-shift : (n c : ℕ) → ◌≡◌ {A = ℕ} (slice_index_or (replicate n 0) c 0) 0
zero-shift zero c = refl
zero-shift (suc n) zero = refl
zero-shift (suc n) (suc c) = zero-shift n c

-- ---- the level

module _ {F : Type 0} {ring : RingOf F} {inverse : F → F} (field : IsField ring inverse) {basis : Basis F} (is : IsBasis ring basis)
    (split : basis.split ≡ 0) (variables : All (IsVectorInVariables ring basis.width basis.width) basis.members)
    (low : All (λ g. (t : Term) (c : F) → IsGreatestTerm (elimination_order 0) g t c → degree t.mono ≤ most_lead) basis.members)
    {leads : List Term} (listed : AreLeadsOf (elimination_order 0) basis.members leads) where
  abbrev laws : IsRing ring
  laws = field.is_ring

  abbrev comm : IsCommutative ring
  comm = field.commutes

  abbrev w : ℕ
  w = basis.width

  abbrev G : List (Vector F)
  G = basis.members

  abbrev E : Term → Term → Ordering
  E = elimination_order 0

  abbrev N : Vector F → Type 0
  N = IsGenerated ring basis.width basis.members

  abbrev M : FreeModule F
  M = free_module ring inverse basis.width (replicate basis.width 0) (elimination_order 0)

  L : IsFreeModule (free_module ring inverse basis.width (replicate basis.width 0) (elimination_order 0))
  L = record { field = field; order = elimination-is_order 0 basis.width }

  reduced : IsReducedBasis ring (elimination_order 0) (IsGenerated ring basis.width basis.members) basis.members
  reduced = subst (λ s. IsReducedBasis ring (elimination_order s) (IsGenerated ring basis.width basis.members) basis.members) split is.reduced

  abbrev lead : ℕ → Term
  lead i = slice_index_or leads i no_term

  abbrev member : ℕ → Vector F
  member i = slice_index_or basis.members i []

  member-vector : (i : ℕ) → i < length basis.members → IsVector ring basis.width (member i)
  member-vector i l = is.vectors i [] l

  lead-is : (i : ℕ) → (l : i < length basis.members) → (reduced.monic i [] l).0 ≡ lead i
  lead-is i l = listed.greatest i _ ring.one l (reduced.monic i [] l).1

  monic : (i : ℕ) → i < length basis.members → IsGreatestTerm (elimination_order 0) (member i) (lead i) ring.one
  monic i l = subst (λ t. IsGreatestTerm E (member i) t ring.one) (lead-is i l) (reduced.monic i [] l).1

  least : (i : ℕ) → i < length basis.members → IsLeastLead (elimination_order 0) (IsGenerated ring basis.width basis.members) (lead i)
  least i l = subst (IsLeastLead E N) (lead-is i l) (reduced.monic i [] l).2

  homogeneous : (i : ℕ) → i < length basis.members
      → HasDegree (free_module ring inverse basis.width (replicate basis.width 0) (elimination_order 0))
      (degree_of (free_module ring inverse basis.width (replicate basis.width 0) (elimination_order 0)) (lead i)) (member i)
  homogeneous i l =
      let h = is.homogeneous i [] l in
      let graded : HasDegree M h.0 (member i) =
      terms_all (λ (t : Term × F). degree_of M t.0 ≡ h.0) 1 (member i) (λ j k d e m.
      let z = zero-shift basis.width ((1 + j) - 1) in
      let x = h.1 j [] k d e m in
      omega (arith, x, z)) in
      subst (λ d. HasDegree M d (member i)) (sym (greatest-degree L (member i) (lead i) ring.one h.0 (monic i l) graded)) graded

  lead-in : (i : ℕ) → i < length basis.members → IsTermWithin basis.width (lead i)
  lead-in i l =
      All-contains (λ (t : Term × F). IsTermWithin w t.0) (terms (member i)) (lead i, ring.one) (within laws comm w (member i) (member-vector i l)) (monic i l).occurs

  groebner : IsGroebner (free_module ring inverse basis.width (replicate basis.width 0) (elimination_order 0)) (record { members = basis.members; leads = leads })
  groebner v t c gen gt =
      let d = lead_divided L (generated-vector laws comm w G is.vectors) reduced t (v, c, gen, gt) in
      let a = reduced.complete d.0 d.1 in
      let same = get_or_default G a.0 [] a.1 a.2 ∙ a.3 in
      let e = listed.greatest a.0 d.0 ring.one a.2 (subst (λ g. IsGreatestTerm E g d.0 ring.one) (sym same) a.4) in
      (a.0, a.2, subst (λ u. TermDivides u t) e d.2)

  apart : (i j : ℕ) → i < length basis.members → j < length basis.members → TermDivides (lead i) (lead j) → i ≡ j
  apart i j li lj d =
      let e = (least j lj).least (lead i) (least i li).lead d in
      reduced.only_one i j (member i) (member j) (lead j) ring.one ring.one (slice_get-get_or G i [] li) (slice_get-get_or G j [] lj)
      (subst (λ t. IsGreatestTerm E (member i) t ring.one) e (monic i li)) (monic j lj)

  lead-first : (i : ℕ) → i < length basis.members → in_first basis.width (lead i).mono ≡ true
  lead-first i l =
      let f = variables i [] l in
      All-contains (λ (t : Term × F). in_first w t.0.mono ≡ true) (terms (member i)) (lead i, ring.one)
      (terms_all (λ (t : Term × F). in_first w t.0.mono ≡ true) 1 (member i) (λ j k d e m. first-drop w _ ((f.1 j [] k).1 d e m))) (monic i l).occurs

  abbrev pub first_level : Level F
  first_level = record {
    chain = first_chain basis.width;
    left = basis.width;
    degrees = replicate basis.width 0;
    members = basis.members;
    leads = leads;
  }

  wide : length (map unit_term (one_to basis.width)) ≡ basis.width
  wide = first-width basis.width

  same-greatest : (i : ℕ) → i < length basis.members → IsGreatestTerm (chain_order (first_chain basis.width)) (member i) (lead i) ring.one
  same-greatest i l =
      agreeing-greatest laws comm w (λ a b ha hb. sym (first-agrees w a b ha hb)) (member i) (lead i) ring.one (member-vector i l) (monic i l)

  -- The members of the basis are a level.
  pub first-is_level : IsLevel ring inverse first_level
  first-is_level = record {
    module_laws = record { field = field; order = chain-is_order (first_chain w) (first-is_chain w) };
    chain = first-is_chain w;
    degrees = zero-degrees 1 w;
    led = record {
      vectors = λ i d l. subst (λ k. IsVector ring k (slice_index_or G i d)) (sym wide) (is.vectors i d l);
      same_length = listed.one_each;
      led = λ i l. (ring.one, same-greatest i l);
      homogeneous = homogeneous;
    };
    monic = same-greatest;
    groebner = λ v t c gen gt.
        let gen' = subst (λ k. IsGenerated ring k G v) wide gen in
        let hv = generated-vector laws comm w G is.vectors v gen' in
        groebner v t c gen' (agreeing-greatest laws comm w (first-agrees w) v t c hv gt);
    variables = λ i d l. subst (λ k. IsVectorInVariables ring w k (slice_index_or G i d)) (sym wide) (variables i d l);
    apart = apart;
    left = λ i p l h. first-each w (lead i).mono (lead-first i l) p h;
    low = λ i p l.
        let e = first-full w (lead i) (lead-in i l) in
        let d = exponent-degree (lead i).mono p in
        let m = low i [] l (lead i) ring.one (monic i l) in
        subst (λ t. exponent_of t.mono p ≤ most_lead) (sym e) (omega (arith, d, m));
  }
