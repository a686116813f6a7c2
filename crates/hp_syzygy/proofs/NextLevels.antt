-- The monic relations of pairs that are not covered are the next level: they generate all relations, and are a Gröbner basis
-- in the induced order, with leads that have lost a variable.
use Rattle.std.specs.Prelude.{◌≡◌, ◌≢◌, ℕ, suc, ◌-◌, ◌<◌, ◌≤◌, List, [], ◌∷◌, length, map, All, slice_index_or}
use Rattle.std.proofs.lemmas.Bool.{cases_eq, cases_lt}
use Rattle.std.proofs.lemmas.List.{get_or-map, get_or_default, length-map}
use Rattle.std.proofs.lemmas.List.Elements.{All-cons, All-contains, All-weaker}
use Rattle.std.proofs.lemmas.Simd.{map-map}
use mathlib.Core.Logic.{inl, inr}
use mathlib.Core.Path.{refl, sym, ap, ◌∙◌, subst}
use native.Mathlib.Omega.{arith}
use Rattle.hp_algebra.specs.Ring.{RingOf, IsRing, IsCommutative}
use Rattle.hp_complex.specs.Complexes.{IsExactAt}
use Rattle.hp_mono.specs.declared.term.Term.{Term}
use Rattle.hp_mono.specs.Monomials.{IsMonomial, degree, product, one, vars, cofactor}
use Rattle.hp_mono.specs.TermOrders.{IsTermWithin, TermDivides}
use Rattle.hp_mono.proofs.MonomialLaws.{cofactor-monomial, cofactor_exponent, product_assoc}
use Rattle.hp_mono.proofs.TermLaws.{times-within}
use Rattle.hp_poly.specs.Polynomials.{IsPoly, IsInVariables, poly_ring}
use Rattle.hp_module.specs.Vectors.{Vector, IsVector, IsGenerated, combination, zero_vector}
use Rattle.hp_module.specs.Derivations.{IsVectorInVariables}
use Rattle.hp_module.specs.FreeModules.{FreeModule, IsFreeModule, degree_of, terms}
use Rattle.hp_module.specs.Leads.{AreLed, IsGreatestTerm, IsGroebner, WithLeads, lead_times, no_term}
use Rattle.hp_module.specs.InducedOrders.{induced}
use Rattle.hp_module.proofs.DividingTerms.{divides-chain, divides-itself}
use Rattle.hp_module.proofs.VectorSums.{term_setting}
use Rattle.hp_module.proofs.VectorCoefficients.{all-terms, within}
use Rattle.hp_sums.proofs.EqualTotals.{total-absent}
use Rattle.hp_module.proofs.Symbols.{generated-vector}
use Rattle.hp_module.proofs.Criterion.{lead-in, lead_of, pair_symbol, pair_top}
use Rattle.hp_module.proofs.GroebnerLaw.{AreRelations, IsPairRelation, PairsUpTo}
use Rattle.hp_module.proofs.GroebnerBases.{all_relations}
use Rattle.hp_module.proofs.Frames.{next_leads, only_relations}
use Rattle.hp_module.proofs.InducedOrder as induced_laws
use Rattle.hp_syzygy.specs.ChainOrders.{IsChain, chain_order, full, top_of}
use Rattle.hp_syzygy.specs.ChainLaws.{chain-is_order, top-in}
use Rattle.hp_syzygy.specs.FrameLevels.{AreRanks, ArePairs, IsLevel, IsNextLevel, IsPair, IsRelationOf, Level, level_lead, level_matrix, level_module, level_width, member_degrees, most_lead, pair_lead, with_leads}
use Rattle.hp_syzygy.proofs.AgreeingOrders.{agreeing-greatest}
use Rattle.hp_syzygy.proofs.LeadExponents.{cofactor-zero, exponent_of, lcm-bounded, no-exponents}
use Rattle.hp_syzygy.proofs.NextChains.{chain-degree, full-next, lead-within, next-agrees, next-is_chain, next-width, next_chain, ranking}

-- a vector in variables is a vector
pub in-vector : {F : Type 0} (ring : RingOf F) (l n : ℕ) (v : Vector F) → IsVectorInVariables ring l n v → IsVector ring n v
in-vector ring l n v h = (h.0, All-weaker (IsInVariables ring l) (IsPoly ring) (λ p f. f.0) v h.1)

-- a pair by its place, and none
abbrev pub pair_at : List (Term × ℕ) → ℕ → Term × ℕ
pair_at pairs p = slice_index_or pairs p (no_term, 0)

module _ {F : Type 0} {ring : RingOf F} {inverse : F → F} {v : Level F} (is : IsLevel ring inverse v) where
  abbrev laws : IsRing ring
  laws = is.module_laws.field.is_ring

  abbrev comm : IsCommutative ring
  comm = is.module_laws.field.commutes

  abbrev n : ℕ
  n = length v.members

  abbrev L : IsFreeModule (level_module ring inverse v)
  L = is.module_laws

  abbrev s : WithLeads F
  s = with_leads v

  abbrev lead : ℕ → Term
  lead i = level_lead v i

  module _ {ranks : List ℕ} (ar : AreRanks v ranks) (pairs : List (Term × ℕ)) (pr : ArePairs v.leads ranks pairs) where
    -- ---- the pairs

    -- the places of a listed pair
    record IsPlace (p : ℕ) : Type 0 where
      pub later : ℕ
      pub pair : IsPair v.leads ranks (pair_at pairs p).1 later
      pub lead_is : (pair_at pairs p).0 ≡ pair_lead v.leads later (pair_at pairs p).1

    place : (p : ℕ) → p < length pairs → IsPlace p
    place p l = let e = pr.each p (no_term, 0) l in record { later = e.0; pair = e.1; lead_is = e.2 }

    next_lead : (p : ℕ) → p < length pairs → slice_index_or (map (λ q. q.0) pairs) p no_term ≡ (pair_at pairs p).0
    next_lead p l = get_or-map (λ (q : Term × ℕ). q.0) pairs p (no_term, 0) no_term l

    covering : (j i : ℕ) → IsPair v.leads ranks j i
        → (p : ℕ) × (p < length pairs) × TermDivides (pair_at pairs p).0 (pair_lead v.leads i j)
    covering j i h =
        let c = pr.covered j i h in
        let at = c.1 in
        (at.0, at.1, subst (λ (q : Term × ℕ). TermDivides q.0 (pair_lead v.leads i j)) (sym (get_or_default pairs at.0 (no_term, 0) c.0 at.1 ∙ at.2)) c.2)

    -- ---- a listed pair

    module _ (p : ℕ) (l : p < length pairs) where
      abbrev q : IsPlace p
      q = place p l

      -- the places of the later and the earlier lead, counted from 1
      abbrev i : ℕ
      i = (pair_at pairs p).0.comp

      abbrev j : ℕ
      j = suc (pair_at pairs p).1

      abbrev later : Term
      later = lead q.later

      abbrev earlier : Term
      earlier = lead (pair_at pairs p).1

      comp_is : i ≡ suc q.later
      comp_is = ap (λ t. t.comp) q.lead_is

      back_i : i - 1 ≡ q.later
      back_i = omega (arith, comp_is)

      back_j : j - 1 ≡ (pair_at pairs p).1
      back_j = omega arith

      later_in : q.later < length v.members
      later_in = let h = q.pair.later in omega (arith, h, is.led.same_length)

      earlier_in : (pair_at pairs p).1 < length v.members
      earlier_in = let h = q.pair.earlier in omega (arith, h, is.led.same_length)

      i_low : 1 ≤ i
      i_low = omega (arith, comp_is)

      i_high : i ≤ length v.members
      i_high = omega (arith, later_in, comp_is)

      j_low : 1 ≤ j
      j_low = omega arith

      j_high : j ≤ length v.members
      j_high = omega (arith, earlier_in)

      comps : (lead_of L is.led j).comp ≡ (lead_of L is.led i).comp
      comps = ap (λ k. (lead k).comp) back_j ∙ q.pair.same_comp ∙ ap (λ k. (lead k).comp) (sym back_i)

      before : (ranking is ar).rank j < (ranking is ar).rank i
      before =
          subst (λ k. slice_index_or ranks k 0 < slice_index_or ranks (i - 1) 0) (sym back_j)
          (subst (λ k. slice_index_or ranks (pair_at pairs p).1 0 < slice_index_or ranks k 0) (sym back_i) q.pair.before)

      mono_is : (pair_at pairs p).0.mono ≡ cofactor later.mono earlier.mono
      mono_is = ap (λ t. t.mono) q.lead_is

      symbol_is : pair_symbol L is.led i j ≡ (pair_at pairs p).0
      symbol_is =
          (λ k. record { mono = cofactor (lead (back_i k)).mono (lead (back_j k)).mono; comp = i })
          ∙ (λ k. record { mono = sym mono_is k; comp = i })

      -- ---- its exponents

      later_mono : IsMonomial later.mono
      later_mono = (lead-within is q.later later_in).0

      earlier_mono : IsMonomial earlier.mono
      earlier_mono = (lead-within is (pair_at pairs p).1 earlier_in).0

      lead_in : IsTermWithin (length v.members) (pair_at pairs p).0
      lead_in = (subst IsMonomial (sym mono_is) (cofactor-monomial later.mono earlier.mono later_mono earlier_mono), i_low, i_high)

      -- the last variable that was left is lost
      pair-left : (x : ℕ) → v.left - 1 ≤ x → exponent_of (pair_at pairs p).0.mono x ≡ 0
      pair-left x h =
          let lengths = later_mono ∙ sym earlier_mono in
          ap (λ m. exponent_of m x) mono_is
          ∙ elim (cases_lt x v.left) [
            | inr o ↦ cofactor-zero x later.mono earlier.mono lengths (is.left q.later x later_in o) (is.left (pair_at pairs p).1 x earlier_in o)
            | inl b ↦ cofactor_exponent x later.mono earlier.mono lengths
                (ar.rise (pair_at pairs p).1 q.later x q.pair.earlier q.pair.later q.pair.same_comp q.pair.before (omega (arith, h, b)))
          ]

      -- the exponents of what it stands for are bounded
      pair-low : (x : ℕ) → exponent_of (full (next_chain is ar) (pair_at pairs p).0).mono x ≤ most_lead
      pair-low x =
          let c = top_of v.chain later.comp in
          let w = lead-within is q.later later_in in
          let c_mono = (top-in v.chain is.chain later.comp w.1 w.2).0 in
          let other : exponent_of (product earlier.mono c.mono) x ≤ most_lead =
          subst (λ k. exponent_of (product earlier.mono (top_of v.chain k).mono) x ≤ most_lead) q.pair.same_comp (is.low (pair_at pairs p).1 x earlier_in) in
          let bounded = lcm-bounded vars x most_lead later.mono earlier.mono c.mono later_mono earlier_mono c_mono (is.low q.later x later_in) other in
          let stands : (full (next_chain is ar) (pair_at pairs p).0).mono ≡ product (cofactor later.mono earlier.mono) (product later.mono c.mono) =
          ap (λ t. t.mono) (full-next is ar (pair_at pairs p).0 lead_in)
          ∙ (λ k. product (product (mono_is k) (lead (back_i k)).mono) (top_of v.chain (lead (back_i k)).comp).mono)
          ∙ product_assoc (cofactor later.mono earlier.mono) later.mono c.mono in
          subst (λ m. exponent_of m x ≤ most_lead) (sym stands) bounded

    module _ (rels : List (Vector F)) (count : length rels ≡ length pairs)
        (each : (p : ℕ) → p < length pairs → IsRelationOf ring inverse is (pair_at pairs p) (slice_index_or rels p [])) where
      -- the relations as a level
      abbrev pub next : Level F
      next = record {
        chain = next_chain is ar;
        left = v.left - 1;
        degrees = member_degrees v;
        members = rels;
        leads = map (λ q. q.0) pairs;
      }

      -- ---- the relations generate all

      relations : AreRelations L is.led rels
      relations = record {
        vectors = λ p d l. subst (IsVector ring n) (get_or_default rels p [] d l)
            (in-vector ring v.chain.width n _ (each p (omega (arith, l, count))).variables);
        zero = λ p d l. subst (λ r. combination ring (level_width v) r v.members ≡ zero_vector ring (level_width v)) (get_or_default rels p [] d l)
            (each p (omega (arith, l, count))).zero;
      }

      covered : (d : ℕ) → PairsUpTo L is.led rels (ranking is ar).rank d
      covered d b a lb hb la ha less comps' low =
          let pair : IsPair v.leads ranks (b - 1) (a - 1) = record {
            earlier = omega (arith, lb, hb, is.led.same_length);
            later = omega (arith, la, ha, is.led.same_length);
            same_comp = comps';
            before = less;
          } in
          let c = covering (b - 1) (a - 1) pair in
          let p = c.0 in
          let l = c.1 in
          let m = c.2 in
          let comp : i p l ≡ a = ap (λ t. t.comp) m.2 ∙ omega (arith, la) in
          record {
            place = j p l;
            low = j_low p l;
            high = j_high p l;
            before = subst (λ k. (ranking is ar).rank (j p l) < (ranking is ar).rank k) comp (before p l);
            same_comp = comps p l ∙ ap (λ k. (lead_of L is.led k).comp) comp;
            factor = m.0;
            factor_monomial = m.1;
            divides = ap (product m.0) (ap (λ k. cofactor (lead_of L is.led k).mono (lead_of L is.led (j p l)).mono) (sym comp) ∙ ap (λ t. t.mono) (symbol_is p l))
                ∙ ap (λ t. t.mono) m.2;
            index = p;
            index_high = omega (arith, l, count);
            relation = subst (λ k. IsPairRelation L is.led (j p l) k (slice_index_or rels p [])) comp (each p l).relation;
          }

      pub next-exact : IsExactAt (poly_ring ring) (record { cols = length v.members; rows = rels }) (level_matrix v)
      next-exact c = (
        λ r. all_relations L is.led relations (ranking is ar) covered c r.0 r.1,
        λ g. (generated-vector laws comm n rels relations.vectors c g, only_relations L is.led relations c g),
      )

      -- ---- the leads of the relations

      module _ (p : ℕ) (l : p < length pairs) where
        abbrev rel : Vector F
        rel = slice_index_or rels p []

        abbrev later' : ℕ
        later' = i p l

        abbrev earlier' : ℕ
        earlier' = j p l

        rel-vector : IsVector ring n rel
        rel-vector = in-vector ring v.chain.width n rel (each p l).variables

        -- the lead of a relation is that of the pair, with coefficient 1
        rel-greatest : IsGreatestTerm (induced (chain_order v.chain) s (ranking is ar).rank) rel (pair_at pairs p).0 ring.one
        rel-greatest =
            let g = induced_laws.pair_lead L is.led (ranking is ar) earlier' later' (j_low p l) (j_high p l) (i_low p l) (i_high p l) (before p l) (comps p l) rel rel-vector (each p l).relation in
            subst (λ t. IsGreatestTerm (induced (chain_order v.chain) s (ranking is ar).rank) rel t ring.one) (symbol_is p l)
            (subst (IsGreatestTerm (induced (chain_order v.chain) s (ranking is ar).rank) rel (pair_symbol L is.led later' earlier')) (each p l).monic g)

        abbrev D : Term → ℕ
        D t = degree_of (level_module ring inverse v) (lead_times s t)

        -- its terms have the degree of the lcm
        rel-degree : All (λ t. degree_of (level_module ring inverse v) (lead_times s t.0) ≡ degree_of (level_module ring inverse v) (lead_times s (pair_at pairs p).0)) (terms rel)
        rel-degree =
            let r = (each p l).relation in
            let up = pair_symbol L is.led later' earlier' in
            let down = pair_symbol L is.led earlier' later' in
            let tops : lead_times s down ≡ lead_times s up =
            pair_top L is.led later' earlier' (lead-in L is.led later' (i_low p l) (i_high p l)).0 (lead-in L is.led earlier' (j_low p l) (j_high p l)).0 (comps p l) in
            let Key : Term × F → Type 0 = λ t. D t.0 ≡ D up in
            let keys : All Key ((up, r.first) ∷ (down, r.second) ∷ r.rest) =
            All-cons Key (up, r.first) ((down, r.second) ∷ r.rest) refl
            (All-cons Key (down, r.second) r.rest (ap (degree_of (level_module ring inverse v)) tops) (λ k d m. (r.lower k d m).1)) in
            subst (λ u. All (λ (t : Term × F). D t.0 ≡ D u) (terms rel)) (symbol_is p l)
            (all-terms laws comm n rel (λ b. D b ≡ D up) rel-vector (λ b hb z.
            elim (cases_eq (D b) (D up)) [
              | inl e ↦ e
              | inr o ↦ absurd (z (r.same b ∙ total-absent (term_setting laws comm) ((up, r.first) ∷ (down, r.second) ∷ r.rest) b
                  (All-weaker Key (λ t. b ≢ t.0) (λ t k e. o (ap D e ∙ k)) ((up, r.first) ∷ (down, r.second) ∷ r.rest) keys)))
            ]))

      -- ---- the next level

      abbrev M' : FreeModule F
      M' = level_module ring inverse next

      is_chain : IsChain (next_chain is ar)
      is_chain = next-is_chain is ar

      wide : length (map (full v.chain) v.leads) ≡ length v.members
      wide = next-width is ar

      next-laws : IsFreeModule (level_module ring inverse next)
      next-laws = record { field = L.field; order = chain-is_order (next_chain is ar) is_chain }

      next-degrees : member_degrees v ≡ map (λ t. degree t.mono) (map (full v.chain) v.leads)
      next-degrees = sym (map-map (λ (t : Term). degree t.mono) (full v.chain) v.leads)

      -- a term of the next module has the degree of the lead of the symbol
      degree-next : (t : Term) → IsTermWithin (length v.members) t
          → degree_of (level_module ring inverse next) t ≡ degree_of (level_module ring inverse v) (lead_times s t)
      degree-next t h =
          let t_in = subst (λ k. IsTermWithin k t) (sym wide) h in
          let top = times-within (level_width v) t.mono (level_lead v (t.comp - 1)) h.0 (lead-within is (t.comp - 1) (omega (arith, h.1, h.2))) in
          chain-degree (next_chain is ar) is_chain (member_degrees v) next-degrees t t_in
          ∙ ap (λ u. degree u.mono) (full-next is ar t h)
          ∙ sym (chain-degree v.chain is.chain v.degrees is.degrees (lead_times s t) top)

      next-vectors : All (IsVector ring (length (map (full v.chain) v.leads))) rels
      next-vectors p d l = subst (λ k. IsVector ring k (slice_index_or rels p d)) (sym wide) (relations.vectors p d l)

      lead-at : (p : ℕ) → p < length rels → level_lead next p ≡ (pair_at pairs p).0
      lead-at p l = next_lead p (omega (arith, l, count))

      next-monic : (p : ℕ) → p < length rels → IsGreatestTerm (chain_order (next_chain is ar)) (slice_index_or rels p []) (level_lead next p) ring.one
      next-monic p l =
          let m : p < length pairs = omega (arith, l, count) in
          subst (λ t. IsGreatestTerm (chain_order (next_chain is ar)) (slice_index_or rels p []) t ring.one) (sym (lead-at p l))
          (agreeing-greatest laws comm n (λ a b ha hb. sym (next-agrees is ar a b ha hb)) (slice_index_or rels p []) (pair_at pairs p).0 ring.one (rel-vector p m) (rel-greatest p m))

      next-led : AreLed (level_module ring inverse next) (with_leads next)
      next-led = record {
        vectors = next-vectors;
        same_length = length-map pairs (λ q. q.0) ∙ sym count;
        led = λ p l. (ring.one, next-monic p l);
        homogeneous = λ p l.
            let m : p < length pairs = omega (arith, l, count) in
            let w = within laws comm n (slice_index_or rels p []) (rel-vector p m) in
            let e = degree-next (pair_at pairs p).0 (lead_in p m) in
            λ k d h. degree-next (slice_index_or (terms (slice_index_or rels p [])) k d).0 (w k d h) ∙ rel-degree p m k d h ∙ sym e
            ∙ ap (degree_of (level_module ring inverse next)) (sym (lead-at p l));
      }

      next-groebner : IsGroebner (level_module ring inverse next) (with_leads next)
      next-groebner u t c g gt =
          let g' = subst (λ k. IsGenerated ring k rels u) wide g in
          let hu = generated-vector laws comm n rels relations.vectors u g' in
          let gt' = agreeing-greatest laws comm n (next-agrees is ar) u t c hu gt in
          let t_in = All-contains (λ (y : Term × F). IsTermWithin n y.0) (terms u) (t, c) (within laws comm n u hu) gt.occurs in
          let f = next_leads L is.led relations (ranking is ar) covered u g' t c gt' in
          let b = f.0 in
          let pair : IsPair v.leads ranks (b - 1) (t.comp - 1) = record {
            earlier = omega (arith, f.1, f.2, is.led.same_length);
            later = omega (arith, t_in.1, t_in.2, is.led.same_length);
            same_comp = f.3.1;
            before = f.3.0;
          } in
          let e = covering (b - 1) (t.comp - 1) pair in
          let comp : suc (t.comp - 1) ≡ t.comp = omega (arith, t_in.1) in
          let symbol : pair_lead v.leads (t.comp - 1) (b - 1) ≡ pair_symbol L is.led t.comp b =
          (λ k. record { mono = cofactor (lead (t.comp - 1)).mono (lead (b - 1)).mono; comp = comp k }) in
          let d = divides-chain (pair_at pairs e.0).0 (pair_symbol L is.led t.comp b) t
          (subst (TermDivides (pair_at pairs e.0).0) symbol e.2) f.3.2 in
          let l : e.0 < length rels = omega (arith, e.1, count) in
          (e.0, l, subst (λ w. TermDivides w t) (sym (lead-at e.0 l)) d)

      next-apart : (a b : ℕ) → a < length rels → b < length rels → TermDivides (level_lead next a) (level_lead next b) → a ≡ b
      next-apart a b la lb d =
          let e = subst (λ t. TermDivides t (pair_at pairs b).0) (lead-at a la) (subst (TermDivides (level_lead next a)) (lead-at b lb) d) in
          elim (cases_eq a b) [
            | inl q ↦ q
            | inr o ↦ elim (cases_lt a b) [
              | inl x ↦ absurd ((pr.apart a b (no_term, 0) x (omega (arith, lb, count))).0 e)
              | inr y ↦ absurd ((pr.apart b a (no_term, 0) (omega (arith, y, o)) (omega (arith, la, count))).1 e)
            ]
          ]

      -- a relation needs a variable
      some-left : 1 ≤ length rels → 1 ≤ v.left
      some-left some =
          let l : 0 < length pairs = omega (arith, some, count) in
          let a = later 0 l in
          let b = earlier 0 l in
          elim (cases_lt 0 v.left) [
            | inl x ↦ omega (arith, x)
            | inr z ↦
                let none : (m : Term) (k : ℕ) → k < length v.members → m ≡ lead k → m.mono ≡ one = λ m k h e.
                ap (λ t. t.mono) e ∙ no-exponents vars (lead k).mono (lead-within is k h).0 (λ x. is.left k x h (omega (arith, z))) in
                let ea = none a (q 0 l).later (later_in 0 l) refl in
                let eb = none b (pair_at pairs 0).1 (earlier_in 0 l) refl in
                let m = eb ∙ sym ea in
                let c = (q 0 l).pair.same_comp in
                let same : b ≡ a = λ k. record { mono = m k; comp = c k } in
                let d : TermDivides b a = subst (TermDivides b) same (divides-itself b (earlier_mono 0 l)) in
                let places = is.apart (pair_at pairs 0).1 (q 0 l).later (earlier_in 0 l) (later_in 0 l) d in
                let less = (q 0 l).pair.before in
                let equal = ap (λ k. slice_index_or ranks k 0) places in
                absurd (omega (arith, less, equal))
          ]

      next-level : IsLevel ring inverse next
      next-level = record {
        module_laws = next-laws;
        chain = is_chain;
        degrees = next-degrees;
        led = next-led;
        monic = next-monic;
        groebner = next-groebner;
        variables = λ p d l.
            subst (λ k. IsVectorInVariables ring v.chain.width k (slice_index_or rels p d)) (sym wide)
            (subst (IsVectorInVariables ring v.chain.width n) (get_or_default rels p [] d l) (each p (omega (arith, l, count))).variables);
        apart = next-apart;
        left = λ p x l h. ap (λ t. exponent_of t.mono x) (lead-at p l) ∙ pair-left p (omega (arith, l, count)) x h;
        low = λ p x l. subst (λ t. exponent_of (full (next_chain is ar) t).mono x ≤ most_lead) (sym (lead-at p l)) (pair-low p (omega (arith, l, count)) x);
      }

      -- The relations are the next level.
      pub next-is_level : IsNextLevel ring inverse v next
      next-is_level = record {
        exact = subst (λ k. IsExactAt (poly_ring ring) (record { cols = k; rows = rels }) (level_matrix v)) (sym wide) next-exact;
        same_width = refl;
        width = wide;
        degrees = refl;
        level = λ some. (next-level, let x = some-left some in omega (arith, x));
      }
