-- The law of Gröbner bases, for every term order: relations that cover the critical pairs give all leads and all relations.
use Rattle.std.specs.Prelude.{◌≡◌, ◌≢◌, ◌⊎◌, ℕ, ◌+◌, ◌-◌, ◌<◌, ◌≤◌, List, [], ◌∷◌, length, All, slice_index_or}
use Rattle.std.specs.declared.cmp.Ordering.TheVariants.{Less, Equal, Greater}
use Rattle.std.proofs.lemmas.List.Elements.{All-nil, All-cons, All-map, All-weaker}
use mathlib.Core.Logic.{inl, inr}
use mathlib.Core.Path.{refl, sym, ap, ◌∙◌, subst}
use native.Mathlib.Omega.{arith}
use Rattle.hp_algebra.specs.Ring.{IsRing, IsCommutative}
use Rattle.hp_algebra.proofs.Rings.{neg_mul, zero_add}
use Rattle.hp_mono.specs.declared.term.Term.{Term}
use Rattle.hp_mono.specs.Monomials.{Monomial, IsMonomial, product, cofactor}
use Rattle.hp_mono.specs.TermOrders.{IsTermOrder, IsTermWithin, TermDivides, times}
use Rattle.hp_sums.specs.FiniteSums.{HasValues, total}
use Rattle.hp_sums.proofs.SumSetting.{SumSetting}
use Rattle.hp_sums.proofs.Collected.{total-append, total-value}
use Rattle.hp_sums.proofs.WeightedSums.{scaled, scaled-values, weighted}
use Rattle.hp_sums.proofs.EqualTotals.{total-scaled}
use Rattle.hp_sums.proofs.Rewriting.{AreCongruent, weighted-congruent}
use Rattle.hp_sums.proofs.SymbolLeads.{HasLead}
use Rattle.hp_module.specs.Vectors.{Vector, IsVector, IsGenerated, combination, zero_vector}
use Rattle.hp_module.specs.FreeModules.{FreeModule, IsFreeModule, as_listed, coefficient_at, degree_of, terms}
use Rattle.hp_module.specs.Leads.{AreLed, IsGreatestTerm, WithLeads, lead_times}
use Rattle.hp_module.proofs.VectorSums.{term_setting, terms-values}
use Rattle.hp_module.proofs.VectorCoefficients.{coefficient-combination, coefficient-zero, combination-vector, family, family-values, within}
use Rattle.hp_module.proofs.GreatestTerms.{greatest-above, greatest-at}
use Rattle.hp_module.proofs.OrderedTerms.{less-back}
use Rattle.hp_module.proofs.Symbols.{IsSymbolic, from_symbols, relation-multiple, symbolic-one, symbolic-same, symbolic-shifted, symbolic-space, symbolic-zero}
use Rattle.hp_module.proofs.Criterion.{C, CoversUpTo, Found, IsLower, IsReducedPair, IsRelationSpace, Ranking, criterion, lead_of, on_member, on_member-value, pair_symbol, symbols_led, top-in}

module _ {F : Type 0} {M : FreeModule F} (L : IsFreeModule M) {s : WithLeads F} (led : AreLed M s) where
  open M use {ring, inverse, width, cmp}

  abbrev laws : IsRing ring
  laws = L.field.is_ring

  abbrev comm : IsCommutative ring
  comm = L.field.commutes

  abbrev order : IsTermOrder width cmp
  order = L.order

  abbrev T : SumSetting Term F
  T = term_setting laws comm

  abbrev Val : Term × F → Type 0
  Val t = ring.IsValue t.1

  abbrev n : ℕ
  n = length s.members

  abbrev tot : List (Term × F) → Term → F
  tot xs b = total as_listed ring xs b

  -- The relation of a critical pair: its two symbols with coefficients, and what is lower, of the same degree.
  pub record IsPairRelation (j i : ℕ) (rel : Vector F) : Type 0 where
    pub first : F
    pub second : F
    pub first_value : ring.IsValue first
    pub second_value : ring.IsValue second
    pub first_nonzero : first ≢ ring.zero
    pub rest : List (Term × F)
    pub rest_values : HasValues ring rest
    pub lower : All (λ t. IsLower L led j i t.0) rest
    pub same : (b : Term) → coefficient_at ring rel b
        ≡ total as_listed ring ((pair_symbol L led i j, first) ∷ (pair_symbol L led j i, second) ∷ rest) b

  -- Relations among the members.
  pub record AreRelations (rels : List (Vector F)) : Type 0 where
    pub vectors : All (IsVector ring (length s.members)) rels
    pub zero : All (λ r. combination ring width r s.members ≡ zero_vector ring width) rels

  -- A pair of i and a member before it that has a relation, whose symbol at i divides that of the pair of i and j.
  pub record IsCoveredPair (rels : List (Vector F)) (rank : ℕ → ℕ) (j i : ℕ) : Type 0 where
    pub place : ℕ
    pub low : 1 ≤ place
    pub high : place ≤ length s.members
    pub before : rank place < rank i
    pub same_comp : (lead_of L led place).comp ≡ (lead_of L led i).comp
    pub factor : Monomial
    pub factor_monomial : IsMonomial factor
    pub divides : product factor (cofactor (lead_of L led i).mono (lead_of L led place).mono)
        ≡ cofactor (lead_of L led i).mono (lead_of L led j).mono
    -- the relation, counted from 0
    pub index : ℕ
    pub index_high : index < length rels
    pub relation : IsPairRelation place i (slice_index_or rels index [])

  -- every critical pair whose lcm has degree at most d is covered by the relations
  abbrev pub PairsUpTo : List (Vector F) → (ℕ → ℕ) → ℕ → Type 0
  PairsUpTo rels rank d = (j i : ℕ) → 1 ≤ j → j ≤ length s.members → 1 ≤ i → i ≤ length s.members → rank j < rank i
      → (lead_of L led j).comp ≡ (lead_of L led i).comp → degree_of M (lead_times s (pair_symbol L led i j)) ≤ d
      → IsCoveredPair rels rank j i

  -- the leads of the symbols in the quotients have degree at most d
  abbrev pub IsUpTo : ℕ → Vector F → Type 0
  IsUpTo d qs = All (λ t. degree_of M (lead_times s t.0) ≤ d) (terms qs)

  -- the coefficients of a combination are those of its symbols
  pub combination-symbols : (qs : Vector F) → IsVector ring (length s.members) qs → (b : Term)
      → coefficient_at ring (combination ring width qs s.members) b ≡ weighted ring (on_member L led b) (terms qs)
  combination-symbols qs f b = coefficient-combination laws comm width qs s.members f led.vectors b

  -- -c x + c (y + x) = c y
  drop_rest : (c y x : F) → ring.IsValue c → ring.IsValue y → ring.IsValue x
      → ring.add (ring.mul (ring.neg c) x) (ring.mul c (ring.add y x)) ≡ ring.mul c y
  drop_rest c y x vc vy vx =
      let cy = laws.mul_value c y vc vy in
      let cx = laws.mul_value c x vc vx in
      let nx = laws.mul_value (ring.neg c) x (laws.neg_value c vc) vx in
      ap (ring.add (ring.mul (ring.neg c) x)) (laws.mul_add c y x vc vy vx ∙ laws.add_comm _ _ cy cx)
      ∙ sym (laws.add_assoc _ _ _ nx cx cy)
      ∙ ap (λ u. ring.add u (ring.mul c y))
      (laws.add_comm _ _ nx cx ∙ ap (ring.add (ring.mul c x)) (neg_mul laws c x vc vx) ∙ laws.add_neg _ cx)
      ∙ zero_add laws _ cy

  -- ---- any space of relations

  module _ (R : List (Term × F) → Type 0) where
    -- a pair with a relation is reduced
    pub reduced_with : (j i : ℕ) (rel : Vector F) → IsVector ring (length s.members) rel → (r : IsPairRelation j i rel)
        → R (scaled ring (inverse r.first) (terms rel)) → IsReducedPair L led R j i
    reduced_with j i rel hv r member =
        let inv = inverse r.first in
        let vi = L.field.inverse_value r.first r.first_value r.first_nonzero in
        let vn = laws.neg_value inv vi in
        let y : Term × F = (pair_symbol L led i j, r.first) in
        let x : List (Term × F) = (pair_symbol L led j i, r.second) ∷ r.rest in
        let rv = terms-values laws comm 1 rel hv.1 in
        let vx : HasValues ring x = All-cons Val (pair_symbol L led j i, r.second) r.rest r.second_value r.rest_values in
        let vy : HasValues ring (y ∷ []) = All-cons Val y [] r.first_value (All-nil Val) in
        let one : ring.mul inv r.first ≡ ring.one =
        L.field.commutes inv r.first vi r.first_value ∙ L.field.mul_inverse r.first r.first_value r.first_nonzero in
        record {
          factor = ring.mul (ring.neg inv) r.second;
          rest = scaled ring (ring.neg inv) r.rest;
          cong = record {
            left = All-cons Val (y.0, ring.one) [] laws.one_value (All-nil Val);
            right = scaled-values T (ring.neg inv) x vn vx;
            rest = scaled ring inv (terms rel);
            member = member;
            same = λ b.
                sym (ap (ring.add (tot (scaled ring (ring.neg inv) x) b)) (total-scaled T inv (terms rel) b vi rv ∙ ap (ring.mul inv) (r.same b))
                ∙ ap (λ u. ring.add u (ring.mul inv (tot (y ∷ x) b))) (total-scaled T (ring.neg inv) x b vn vx)
                ∙ ap (λ u. ring.add (ring.mul (ring.neg inv) (tot x b)) (ring.mul inv u)) (total-append T (y ∷ []) x b vy vx)
                ∙ drop_rest inv (tot (y ∷ []) b) (tot x b) vi (total-value T (y ∷ []) b vy) (total-value T x b vx)
                ∙ sym (total-scaled T inv (y ∷ []) b vi vy) ∙ ap (λ c. tot ((y.0, c) ∷ []) b) one);
          };
          lower = All-map (λ (t : Term × F). IsLower L led j i t.0) (λ t. (t.0, ring.mul (ring.neg inv) t.1)) r.rest r.lower;
        }

    module _ (rs : IsRelationSpace L led R) (rk : Ranking (length s.members)) (d : ℕ)
        (cov : CoversUpTo L led R rk.rank d) where
      abbrev Top : List (Term × F) → Type 0
      Top xs = HasLead T (symbols_led L led R rs rk d cov) (C L led R rs rk d cov) xs

      pub decided : (qs : Vector F) → IsVector ring (length s.members) qs → IsUpTo d qs
          → AreCongruent T R (terms qs) []
          ⊎ HasLead T (symbols_led L led R rs rk d cov) (C L led R rs rk d cov) (terms qs)
      decided qs f u =
          let w = within laws comm (length s.members) qs f in
          criterion L led R rs rk d cov (terms qs) (terms-values laws comm 1 qs f.1) (λ i t l. (w i t l, u i t l))

      -- The greatest term of a combination is a multiple of one of the leads.
      pub leads_by : (qs : Vector F) → IsVector ring (length s.members) qs → IsUpTo d qs → (t : Term) (x : F)
          → IsGreatestTerm cmp (combination ring width qs s.members) t x
          → Found (λ j. TermDivides (lead_of L led j) t) (length s.members)
      unfolding symbols_led
      leads_by qs f u t x gt =
          let v = combination ring width qs s.members in
          let hv = combination-vector laws comm width qs s.members f.1 led.vectors in
          let at = greatest-at L v t x hv gt in
          let nonzero : weighted ring (on_member L led t) (terms qs) ≢ ring.zero =
          λ z. at.2 (sym at.1 ∙ combination-symbols qs f t ∙ z) in
          elim (decided qs f u) [
            | inl c ↦ absurd (nonzero (weighted-congruent T R rs.space (on_member L led t) (on_member-value L led t)
                (λ ys r. rs.relations ys t r) (terms qs) [] c))
            | inr p ↦
                let a = p.top in
                let h = p.symbol_in.0 in
                let top_in = top-in L led a h in
                elim (cmp (lead_times s a) t) as (λ o. cmp (lead_times s a) t ≡ o → Found (λ j. TermDivides (lead_of L led j) t) (length s.members)) [
                  | Less ↦ λ e. absurd (nonzero (p.above t at.0 e))
                  | Equal ↦ λ e. (a.comp, h.1, h.2, (a.mono, h.0, order.same (lead_times s a) t top_in at.0 e))
                  | Greater ↦ λ e. absurd (greatest-above L v t x hv gt (lead_times s a)
                      (λ z. p.nonzero (sym (combination-symbols qs f (lead_times s a)) ∙ z)) (less-back order (lead_times s a) t top_in at.0 e))
                ] refl
          ]

  -- ---- the combinations of given relations

  module _ {rels : List (Vector F)} (ar : AreRelations rels) where
    abbrev fam : ℕ → List (Term × F)
    fam = family laws comm rels

    abbrev fv : (i : ℕ) → HasValues ring (family laws comm rels i)
    fv = family-values laws comm (length s.members) rels ar.vectors

    -- the combinations of the relations
    abbrev pub R : List (Term × F) → Type 0
    R xs = IsSymbolic laws comm (family laws comm rels) (family-values laws comm (length s.members) rels ar.vectors) (length rels) xs

    one_relation : (b : Term) (m : Monomial) (i : ℕ) → IsMonomial m → 1 ≤ i → i ≤ length rels
        → weighted ring (λ t. on_member L led b (times m t)) (family laws comm rels i) ≡ ring.zero
    one_relation b m i im lo hi =
        let l : i - 1 < length rels = omega (arith, lo, hi) in
        let v = ar.vectors (i - 1) [] l in
        let z = ar.zero (i - 1) [] l in
        relation-multiple laws comm (family laws comm s.members) (family-values laws comm width s.members led.vectors) (length s.members)
        (family laws comm rels i) (fv i) (within laws comm (length s.members) _ v)
        (λ c. sym (combination-symbols _ v c) ∙ ap (λ w. coefficient_at ring w c) z ∙ coefficient-zero laws comm width c) m im b

    -- what relations generate has image zero
    pub zero_on : (b : Term) (xs : List (Term × F)) → R xs → weighted ring (on_member L led b) xs ≡ ring.zero
    zero_on b xs p =
        symbolic-zero laws comm (family laws comm s.members) fam
        (family-values laws comm width s.members led.vectors) fv (length s.members) (length rels) (on_member L led b) (on_member-value L led b) (one_relation b) xs p

    pub relation_space : IsRelationSpace L led R
    relation_space = record {
      space = symbolic-space laws comm fam fv (length rels);
      closed = λ m xs im p. symbolic-shifted laws comm fam fv (length rels) m xs im p;
      relations = λ xs b p. zero_on b xs p;
    }

    reduced : (j i p : ℕ) → p < length rels → IsPairRelation j i (slice_index_or rels p []) → IsReducedPair L led R j i
    reduced j i p l r =
        let vi = L.field.inverse_value r.first r.first_value r.first_nonzero in
        let rel : List (Term × F) = terms (slice_index_or rels p []) in
        let hv = ar.vectors p [] l in
        let back : (p + 1) - 1 ≡ p = omega arith in
        let same_rel : family laws comm rels (p + 1) ≡ rel = ap (λ k. terms (slice_index_or rels k [])) back in
        let monos : All (λ t. IsMonomial t.0.mono) rel =
        All-weaker (λ (t : Term × F). IsTermWithin (length s.members) t.0) (λ t. IsMonomial t.0.mono) (λ t w. w.0) rel (within laws comm (length s.members) _ hv) in
        let member = symbolic-one laws comm fam fv (length rels) (inverse r.first) (p + 1) vi (omega arith) (omega (arith, l))
        (subst (All (λ t. IsMonomial t.0.mono)) (sym same_rel) monos) in
        reduced_with R j i _ hv r (subst (λ zs. R (scaled ring (inverse r.first) zs)) same_rel member)

    module _ (rk : Ranking (length s.members)) (d : ℕ) (pairs : PairsUpTo rels rk.rank d) where
      pub covers : CoversUpTo L led R rk.rank d
      covers j i a b c e k l m =
          let q = pairs j i a b c e k l m in
          record {
            place = q.place;
            low = q.low;
            high = q.high;
            before = q.before;
            same_comp = q.same_comp;
            factor = q.factor;
            factor_monomial = q.factor_monomial;
            divides = q.divides;
            reduced = reduced q.place i q.index q.index_high q.relation;
          }

      -- The relations of the critical pairs generate all relations.
      pub law_relations : (qs : Vector F) → IsVector ring (length s.members) qs → IsUpTo d qs
          → combination ring width qs s.members ≡ zero_vector ring width → IsGenerated ring (length s.members) rels qs
      unfolding symbols_led
      law_relations qs f u z =
          elim (decided R relation_space rk d covers qs f u) [
            | inr t ↦ absurd (t.nonzero (sym (combination-symbols qs f (lead_times s t.top))
                ∙ ap (λ v. coefficient_at ring v (lead_times s t.top)) z ∙ coefficient-zero laws comm width (lead_times s t.top)))
            | inl c ↦ from_symbols laws comm (length s.members) rels ar.vectors qs f
                (symbolic-same laws comm fam fv (length rels) c.rest (terms qs) (terms-values laws comm 1 qs f.1)
                (λ b. c.same b ∙ zero_add laws _ (total-value T c.rest b ((symbolic-space laws comm fam fv (length rels)).values c.rest c.member))) c.member)
          ]

      -- The greatest term of a member of the submodule is a multiple of one of the leads.
      pub law_leads : (qs : Vector F) → IsVector ring (length s.members) qs → IsUpTo d qs → (t : Term) (x : F)
          → IsGreatestTerm cmp (combination ring width qs s.members) t x
          → Found (λ j. TermDivides (lead_of L led j) t) (length s.members)
      law_leads qs f u t x gt = leads_by R relation_space rk d covers qs f u t x gt
