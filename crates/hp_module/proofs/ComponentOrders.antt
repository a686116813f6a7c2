-- Falling terms are sums in the order of the monomials of a component.
use Rattle.std.specs.Prelude.{◌≡◌, ◌≢◌, ℕ, ◌≤◌, [], ◌∷◌, length, All}
use Rattle.std.specs.declared.cmp.Ordering.{Ordering}
use Rattle.std.specs.declared.cmp.Ordering.TheVariants.{Less}
use Rattle.std.proofs.lemmas.List.Elements.{All-cons, All-head, All-map, All-nil, All-tail, All-weaker}
use mathlib.Core.Path.{sym, ◌∙◌, subst}
use native.Mathlib.Omega.{arith}
use Rattle.hp_algebra.specs.Ring.{RingOf, IsRing, IsCommutative, IsField}
use Rattle.hp_mono.specs.declared.term.Term.{Term}
use Rattle.hp_mono.specs.Monomials.{Monomial, IsMonomial, product}
use Rattle.hp_mono.specs.TermOrders.{IsTermOrder, IsTermWithin}
use Rattle.hp_mono.proofs.MonomialLaws.{product-monomial}
use Rattle.hp_sums.specs.FiniteSums.{IsSum, plus}
use Rattle.hp_sums.proofs.SumSetting.{SumSetting}
use Rattle.hp_sums.proofs.Collected.{nothing-IsSum, sum-after, sum-tail}
use Rattle.hp_sums.proofs.FirstTerms.{cons_sum}
use Rattle.hp_sums.proofs.SumLaws.{plus-keys}
use Rattle.hp_sums.proofs.Merges.{no_items}
use Rattle.hp_poly.specs.Polynomials.{Poly, multiple}
use Rattle.hp_module.specs.ComponentLaws.{component-same, component-terms, component-total}
use Rattle.hp_module.specs.LeadSearch.{component_terms}
use Rattle.hp_module.specs.FallingTerms.{IsFalling, IsTerms, component_order}

module _ (width : ℕ) (cmp : Term → Term → Ordering) (order : IsTermOrder width cmp) (k : ℕ) (low : 1 ≤ k) (high : k ≤ width) where
  module _ {F : Type 0} {ring : RingOf F} (laws : IsRing ring) (commutes : IsCommutative ring) where
    abbrev pub component_setting : SumSetting Monomial F
    component_setting = record {
      order = component_order cmp k;
      ring = ring;
      ordered = component-total width cmp order k low high;
      same = component-same width cmp order k low high;
      laws = laws;
      commutes = commutes;
    }

  module _ {F : Type 0} {ring : RingOf F} {inverse : F → F} (field : IsField ring inverse) where
    abbrev S : SumSetting Monomial F
    S = component_setting field.is_ring field.commutes

    pub falling-rest : (t : Monomial × F) (p : Poly F) → IsFalling ring cmp k (t ∷ p) → IsFalling ring cmp k p
    falling-rest t p f = record {
      is_sum = sum-tail S t p f.is_sum;
      monomials = All-tail (λ (u : Monomial × F). IsMonomial u.0) t p f.monomials;
    }

    pub falling-cons : (t : Monomial × F) (p : Poly F) → ring.IsValue t.1 → t.1 ≢ ring.zero → IsMonomial t.0
        → All (λ (u : Monomial × F). component_order cmp k t.0 u.0 ≡ Less) p → IsFalling ring cmp k p
        → IsFalling ring cmp k (t ∷ p)
    falling-cons t p v n i h f = record {
      is_sum = cons_sum S t p v n h f.is_sum;
      monomials = All-cons (λ (u : Monomial × F). IsMonomial u.0) t p i f.monomials;
    }

    pub falling-nothing : IsFalling ring cmp k []
    falling-nothing = record { is_sum = nothing-IsSum S; monomials = All-nil (λ (u : Monomial × F). IsMonomial u.0) }

    -- the sum of falling terms and others of which the monomials are known
    pub falling-plus : (q : Poly F) {p r : Poly F} → IsFalling ring cmp k p → All (λ t. IsMonomial t.0) q
        → IsSum (component_order cmp k) ring r → r ≡ plus (component_order cmp k) ring p q → IsFalling ring cmp k r
    falling-plus q {p} {r} f h sum e = record {
      is_sum = sum;
      monomials = subst (All (λ (u : Monomial × F). IsMonomial u.0)) (sym e) (plus-keys S IsMonomial p q f.monomials h);
    }

    pub multiple-monomials : (c : F) (m : Monomial) (p : Poly F) → IsMonomial m → IsFalling ring cmp k p
        → All (λ t. IsMonomial t.0) (multiple ring c m p)
    multiple-monomials c m p i f =
        All-map (λ (u : Monomial × F). IsMonomial u.0) (λ (u : Monomial × F). (product m u.0, ring.mul c u.1)) p
        (λ j d l. product-monomial m _ i (f.monomials j d l))

    -- no term, or one
    pub falling-short : (p : Poly F) → length p ≤ 1 → IsTerms ring p → IsFalling ring cmp k p
    falling-short [] l h = falling-nothing
    falling-short (t ∷ p) l h =
        let none : [] ≡ p = sym (no_items p (omega arith)) in
        let first = All-head (λ (u : Monomial × F). IsMonomial u.0 × ring.IsValue u.1 × (u.1 ≢ ring.zero)) t p h in
        subst (λ q. IsFalling ring cmp k (t ∷ q)) none
        (falling-cons t [] first.1 first.2 first.0 (All-nil (λ (u : Monomial × F). component_order cmp k t.0 u.0 ≡ Less)) falling-nothing)

    -- terms that are a sum as they stand
    pub falling-terms : (p : Poly F) → IsTerms ring p → IsSum (component_order cmp k) ring p → IsFalling ring cmp k p
    falling-terms p h s = record {
      is_sum = s;
      monomials = All-weaker (λ (u : Monomial × F). IsMonomial u.0 × ring.IsValue u.1 × (u.1 ≢ ring.zero)) (λ (u : Monomial × F). IsMonomial u.0)
          (λ u g. g.0) p h;
    }

    -- the terms of the component after the first are below it
    pub below-first : (t : Monomial × F) (p : Poly F) → IsFalling ring cmp k (t ∷ p)
        → All (λ s. cmp s.0 (record { mono = t.0; comp = k }) ≡ Less) (component_terms k p)
    below-first t p f =
        let it = All-head (λ (u : Monomial × F). IsMonomial u.0) t p f.monomials in
        let g = falling-rest t p f in
        All-map (λ (s : Term × F). cmp s.0 (record { mono = t.0; comp = k }) ≡ Less) (λ (u : Monomial × F). (record { mono = u.0; comp = k }, u.1)) p
        (λ j d l. component-terms width cmp order k low high t.0 _ it (g.monomials j d l) ∙ sum-after S t p f.is_sum j d l)

    pub falling-within : (p : Poly F) → IsFalling ring cmp k p → All (λ s. IsTermWithin width s.0) (component_terms k p)
    falling-within p f =
        All-map (λ (s : Term × F). IsTermWithin width s.0) (λ (u : Monomial × F). (record { mono = u.0; comp = k }, u.1)) p
        (λ j d l. (f.monomials j d l, low, high))

pub terms-values : {F : Type 0} (ring : RingOf F) (p : Poly F) → IsTerms ring p → All (λ t. ring.IsValue t.1) p
terms-values ring p h = λ i t l. (h i t l).1
