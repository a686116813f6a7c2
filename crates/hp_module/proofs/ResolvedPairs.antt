-- Critical pairs that have relations: where they cover all pairs up to a degree, the leads of that degree are multiples of
-- the leads at hand.
use Rattle.std.specs.Prelude.{◌≡◌, ℕ, ◌-◌, ◌<◌, ◌≤◌, List, length, All}
use Rattle.std.proofs.lemmas.List.Elements.{All-nil, All-append, All-map, All-weaker}
use mathlib.Core.Path.{refl, sym, ap, ◌∙◌, subst}
use native.Mathlib.Omega.{arith}
use Rattle.hp_algebra.specs.Ring.{IsRing, IsCommutative}
use Rattle.hp_algebra.proofs.Rings.{mul_zero}
use Rattle.hp_mono.specs.declared.term.Term.{Term}
use Rattle.hp_mono.specs.Monomials as mono
use Rattle.hp_mono.specs.Monomials.{Monomial, IsMonomial, product, cofactor}
use Rattle.hp_mono.specs.TermOrders.{IsTermWithin, TermDivides, times}
use Rattle.hp_mono.proofs.MonomialLaws.{cofactor-monomial, product-one}
use Rattle.hp_mono.proofs.TermLaws.{times-within}
use Rattle.hp_sums.specs.FiniteSums.{HasValues}
use Rattle.hp_sums.proofs.SumSetting.{SumSetting}
use Rattle.hp_sums.proofs.WeightedSums.{scaled-values, weighted, weighted-append, weighted-scaled}
use Rattle.hp_module.specs.Vectors.{Vector, IsVector, IsGenerated, combination, zero_vector}
use Rattle.hp_module.specs.FreeModules.{FreeModule, IsFreeModule, HasDegree, coefficient_at, degree_of, terms}
use Rattle.hp_module.specs.Leads.{AreLed, IsGreatestTerm, IsGroebner, WithLeads, lead_at, lead_times}
use Rattle.hp_module.proofs.VectorSums.{shifted-values, term_setting, terms-values, weighted-shifted}
use Rattle.hp_module.proofs.VectorCoefficients.{coefficient-zero, family, family-values, within}
use Rattle.hp_module.proofs.Symbols.{relation-multiple}
use Rattle.hp_module.proofs.Criterion.{CoversUpTo, IsRelationSpace, Ranking, lead-in, lead_of, on_member, on_member-value, pair_symbol}
use Rattle.hp_module.proofs.GroebnerLaw.{IsPairRelation, IsUpTo, combination-symbols, leads_by, reduced_with}
use Rattle.hp_module.proofs.GroebnerBases.{homogeneous_combination, top_bound}

module _ {F : Type 0} {M : FreeModule F} (L : IsFreeModule M) {s : WithLeads F} (led : AreLed M s) where
  open M use {ring, inverse, width, cmp}

  abbrev laws : IsRing ring
  laws = L.field.is_ring

  abbrev comm : IsCommutative ring
  comm = L.field.commutes

  abbrev T : SumSetting Term F
  T = term_setting laws comm

  abbrev Val : Term × F → Type 0
  Val t = ring.IsValue t.1

  abbrev In : Term × F → Type 0
  In t = IsTermWithin (length s.members) t.0

  -- Symbols with coefficients whose image is zero.
  pub record IsRelation (xs : List (Term × F)) : Type 0 where
    pub values : HasValues ring xs
    pub inside : All (λ t. IsTermWithin (length s.members) t.0) xs
    pub zero : (b : Term) → weighted ring (on_member L led b) xs ≡ ring.zero

  -- all relations are a space
  pub relations-space : IsRelationSpace L led IsRelation
  relations-space = record {
    space = record {
      nothing = record {
        values = All-nil Val;
        inside = All-nil In;
        zero = λ b. refl;
      };
      sum = λ xs ys p q. record {
        values = All-append Val xs ys p.values q.values;
        inside = All-append In xs ys p.inside q.inside;
        zero = λ b.
            let x = p.zero b in
            let y = q.zero b in
            weighted-append T (on_member L led b) (on_member-value L led b) xs ys p.values q.values ∙ (λ i. ring.add (x i) (y i))
            ∙ laws.add_zero ring.zero laws.zero_value;
      };
      multiple = λ c xs v p. record {
        values = scaled-values T c xs v p.values;
        inside = All-map In (λ t. (t.0, ring.mul c t.1)) xs p.inside;
        zero = λ b. weighted-scaled T (on_member L led b) (on_member-value L led b) c xs v p.values ∙ ap (ring.mul c) (p.zero b)
            ∙ mul_zero laws c v;
      };
      values = λ xs p. p.values;
    };
    closed = λ m xs im p. record {
      values = shifted-values laws comm m xs p.values;
      inside = All-map In (λ t. (times m t.0, t.1)) xs
          (All-weaker In (λ t. IsTermWithin (length s.members) (times m t.0)) (λ t h. times-within (length s.members) m t.0 im h) xs p.inside);
      zero = λ b. weighted-shifted ring (on_member L led b) m xs
          ∙ relation-multiple laws comm (family laws comm s.members) (family-values laws comm width s.members led.vectors) (length s.members) xs p.values p.inside p.zero m im b;
    };
    relations = λ xs b p. p.zero b;
  }

  -- A relation of a pair.
  pub record IsResolved (j i : ℕ) : Type 0 where
    pub relation : Vector F
    pub vector : IsVector ring (length s.members) relation
    pub zero : combination ring width relation s.members ≡ zero_vector ring width
    pub pair : IsPairRelation L led j i relation

  -- A pair of i and a member before it that has a relation, whose symbol at i divides that of the pair of i and j.
  pub record IsSettled (rank : ℕ → ℕ) (j i : ℕ) : Type 0 where
    pub place : ℕ
    pub low : 1 ≤ place
    pub high : place ≤ length s.members
    pub before : rank place < rank i
    pub same_comp : (lead_of L led place).comp ≡ (lead_of L led i).comp
    pub factor : Monomial
    pub factor_monomial : IsMonomial factor
    pub divides : product factor (cofactor (lead_of L led i).mono (lead_of L led place).mono)
        ≡ cofactor (lead_of L led i).mono (lead_of L led j).mono
    pub resolved : IsResolved place i

  -- a pair that has a relation itself
  pub settled_itself : (rank : ℕ → ℕ) (j i : ℕ) → 1 ≤ j → j ≤ length s.members → 1 ≤ i → i ≤ length s.members
      → rank j < rank i → (lead_of L led j).comp ≡ (lead_of L led i).comp → IsResolved j i → IsSettled rank j i
  settled_itself rank j i a b c e l m r =
      let wi = lead-in L led i c e in
      let wj = lead-in L led j a b in
      record {
        place = j;
        low = a;
        high = b;
        before = l;
        same_comp = m;
        factor = mono.one;
        factor_monomial = refl;
        divides = product-one _ (cofactor-monomial (lead_of L led i).mono (lead_of L led j).mono wi.0 wj.0);
        resolved = r;
      }

  -- all critical pairs up to degree d are settled
  abbrev pub AreSettled : (ℕ → ℕ) → ℕ → Type 0
  AreSettled rank d = (j i : ℕ) → 1 ≤ j → j ≤ length s.members → 1 ≤ i → i ≤ length s.members → rank j < rank i
      → (lead_of L led j).comp ≡ (lead_of L led i).comp → degree_of M (lead_times s (pair_symbol L led i j)) ≤ d
      → IsSettled rank j i

  is_relation : (rel : Vector F) → IsVector ring (length s.members) rel
      → combination ring width rel s.members ≡ zero_vector ring width → IsRelation (terms rel)
  is_relation rel h z = record {
    values = terms-values laws comm 1 rel h.1;
    inside = within laws comm (length s.members) rel h;
    zero = λ b. sym (combination-symbols L led rel h b) ∙ ap (λ w. coefficient_at ring w b) z ∙ coefficient-zero laws comm width b;
  }

  settled-covers : (rank : ℕ → ℕ) (d : ℕ) → AreSettled rank d → CoversUpTo L led IsRelation rank d
  settled-covers rank d pairs j i a b c e l m n =
      let q = pairs j i a b c e l m n in
      let r = q.resolved in
      let vi = L.field.inverse_value r.pair.first r.pair.first_value r.pair.first_nonzero in
      record {
        place = q.place;
        low = q.low;
        high = q.high;
        before = q.before;
        same_comp = q.same_comp;
        factor = q.factor;
        factor_monomial = q.factor_monomial;
        divides = q.divides;
        reduced = reduced_with L led IsRelation q.place i r.relation r.vector r.pair
            (relations-space.space.multiple (inverse r.pair.first) (terms r.relation) vi (is_relation r.relation r.vector r.zero));
      }

  module _ (rk : Ranking (length s.members)) where
    -- Settled pairs up to degree d give the leads of the homogeneous members up to degree d,
    pub leads_up_to : (d e : ℕ) → e ≤ d → AreSettled rk.rank d → (v : Vector F) → IsGenerated ring width s.members v
        → HasDegree M e v → (t : Term) (x : F) → IsGreatestTerm cmp v t x
        → (j : ℕ) × (j < length s.members) × TermDivides (lead_at s j) t
    leads_up_to d e l pairs v g h t x gt =
        let q = homogeneous_combination L led e v g h in
        let low : IsUpTo L led d q.0 = (λ i y k. let z = q.3 i y k in omega (arith, z, l)) in
        let r = leads_by L led IsRelation relations-space rk d (settled-covers rk.rank d pairs) q.0 q.1 low t x
        (subst (λ w. IsGreatestTerm cmp w t x) q.2 gt) in
        (r.0 - 1, omega (arith, r.1, r.2), r.3)

    -- and with all pairs settled the members are a Gröbner basis.
    pub groebner_from : ((d : ℕ) → AreSettled rk.rank d) → IsGroebner M s
    groebner_from pairs v t c g gt =
        let b = top_bound L led (terms g.0) in
        let r = leads_by L led IsRelation relations-space rk b.0 (settled-covers rk.rank b.0 (pairs b.0)) g.0 g.1 b.1 t c
        (subst (λ w. IsGreatestTerm cmp w t c) g.2 gt) in
        (r.0 - 1, omega (arith, r.1, r.2), r.3)
