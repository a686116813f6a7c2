-- Constant multiples of vectors: a vector made monic; degrees of multiples and sums.
use Rattle.std.specs.Prelude.{◌≡◌, ◌≢◌, ◌⊎◌, ℕ, ◌+◌, List, All}
use Rattle.std.proofs.lemmas.Bool.{cases_eq}
use Rattle.std.proofs.lemmas.List.Elements.{All-map, All-weaker}
use mathlib.Core.Logic.{inl, inr}
use mathlib.Core.Path.{refl, sym, ap, ◌∙◌, subst}
use Rattle.hp_algebra.specs.Ring.{IsRing, IsCommutative}
use Rattle.hp_algebra.proofs.Rings.{mul_zero}
use Rattle.hp_mono.specs.declared.term.Term.{Term}
use Rattle.hp_mono.specs.Monomials as mono
use Rattle.hp_mono.specs.Monomials.{Monomial, IsMonomial, degree}
use Rattle.hp_mono.specs.TermOrders.{IsTermWithin, times}
use Rattle.hp_sums.specs.FiniteSums.{total}
use Rattle.hp_sums.proofs.SumSetting.{SumSetting}
use Rattle.hp_sums.proofs.EqualTotals.{total-absent}
use Rattle.hp_poly.specs.Polynomials.{constant, term_poly}
use Rattle.hp_module.specs.Vectors.{Vector, vector_plus, vector_scale, zero_vector}
use Rattle.hp_module.specs.FreeModules.{FreeModule, IsFreeModule, IsIn, HasDegree, as_listed, coefficient_at, degree_of, terms}
use Rattle.hp_module.specs.Leads.{IsGreatestTerm}
use Rattle.hp_module.proofs.VectorSums.{shifted, term_setting}
use Rattle.hp_module.proofs.VectorCoefficients.{all-terms, at-term, coefficient-ext, coefficient-multiple, coefficient-plus, coefficient-value, coefficient-zero, multiple-vector, plus-vector, within, zero-vector}
use Rattle.hp_module.proofs.GreatestTerms.{greatest-above, greatest-at, greatest-from}
use Rattle.hp_module.proofs.OrderedTerms.{degree-times}
use Rattle.hp_module.proofs.ShiftedTerms.{shifted-one}

module _ {F : Type 0} {M : FreeModule F} (L : IsFreeModule M) where
  open M use {ring, inverse, width, cmp}

  abbrev laws : IsRing ring
  laws = L.field.is_ring

  abbrev comm : IsCommutative ring
  comm = L.field.commutes

  abbrev co : Vector F → Term → F
  co v b = coefficient_at ring v b

  -- ---- constants

  abbrev pub times_constant : F → Vector F → Vector F
  times_constant c v = vector_scale ring (constant ring c) v

  pub constant-vector : (c : F) (v : Vector F) → ring.IsValue c → IsIn M v → IsIn M (times_constant c v)
  constant-vector c v vc h = multiple-vector laws comm width c mono.one v vc refl h

  pub coefficient-constant : (c : F) (v : Vector F) (b : Term) → ring.IsValue c → IsIn M v
      → coefficient_at ring (times_constant c v) b ≡ ring.mul c (coefficient_at ring v b)
  coefficient-constant c v b vc h =
      let monos = All-weaker (λ (t : Term × F). IsTermWithin width t.0) (λ t. IsMonomial t.0.mono) (λ t w. w.0) (terms v) (within laws comm width v h) in
      coefficient-multiple laws comm width c mono.one v b vc refl h
      ∙ ap (λ xs. ring.mul c (total as_listed ring xs b)) (shifted-one (terms v) monos)

  -- a fact of the terms of v holds of those of a constant times v
  pub constant-all : (P : Term → Type 0) (c : F) (v : Vector F) → ring.IsValue c → IsIn M v → All (λ t. P t.0) (terms v)
      → All (λ t. P t.0) (terms (times_constant c v))
  constant-all P c v vc h f = all-terms laws comm width (times_constant c v) P (constant-vector c v vc h) (λ b hb n.
      at-term laws comm width v P b h f (λ z. n (coefficient-constant c v b vc h ∙ ap (ring.mul c) z ∙ mul_zero laws c vc)))

  -- ---- degrees

  pub multiple-degree : (c : F) (m : Monomial) (v : Vector F) (e : ℕ) → ring.IsValue c → IsMonomial m → IsIn M v
      → HasDegree M e v → HasDegree M (degree m + e) (vector_scale ring (term_poly ring c m) v)
  multiple-degree c m v e vc im h he =
      let T : SumSetting Term F = term_setting laws comm in
      let w = vector_scale ring (term_poly ring c m) v in
      let vw = within laws comm width v h in
      all-terms laws comm width w (λ b. degree_of M b ≡ degree m + e) (multiple-vector laws comm width c m v vc im h) (λ b hb n.
      elim (cases_eq (degree_of M b) (degree m + e)) [
        | inl q ↦ q
        | inr o ↦
            let A : Term × F → Type 0 = λ y. b ≢ y.0 in
            let at : (u : Term) → IsMonomial u.mono → degree_of M u ≡ e → b ≢ times m u =
            λ u iu d q. o (ap (degree_of M) q ∙ degree-times M m u im iu ∙ ap (λ k. degree m + k) d) in
            let z = total-absent T (shifted m (terms v)) b (All-map A (λ y. (times m y.0, y.1)) (terms v)
            (λ i z l. at (Rattle.std.specs.Prelude.slice_index_or (terms v) i z).0 (vw i z l).0 (he i z l))) in
            absurd (n (coefficient-multiple laws comm width c m v b vc im h ∙ ap (ring.mul c) z ∙ mul_zero laws c vc))
      ])

  pub plus-degree : (v w : Vector F) (e : ℕ) → IsIn M v → IsIn M w → HasDegree M e v → HasDegree M e w
      → HasDegree M e (vector_plus ring v w)
  plus-degree v w e hv hw dv dw =
      let P : Term → Type 0 = λ b. degree_of M b ≡ e in
      let zero_at : (u : Vector F) → IsIn M u → HasDegree M e u → (b : Term) → degree_of M b ≢ e → co u b ≡ ring.zero =
      λ u hu du b o. total-absent (term_setting laws comm) (terms u) b
      (All-weaker (λ (t : Term × F). degree_of M t.0 ≡ e) (λ t. b ≢ t.0) (λ t d q. o (ap (degree_of M) q ∙ d)) (terms u) du) in
      all-terms laws comm width (vector_plus ring v w) P (plus-vector laws comm width v w hv hw) (λ b hb n.
      elim (cases_eq (degree_of M b) e) [
        | inl q ↦ q
        | inr o ↦
            let x = zero_at v hv dv b o in
            let y = zero_at w hw dw b o in
            absurd (n (coefficient-plus laws comm width v w b hv hw ∙ (λ i. ring.add (x i) (y i)) ∙ laws.add_zero ring.zero laws.zero_value))
      ])

  -- zero added
  pub plus-zero : (v r : Vector F) → IsIn M v → r ≡ zero_vector ring width → vector_plus ring v r ≡ v
  plus-zero v r h z =
      let hz = zero-vector laws comm width in
      ap (vector_plus ring v) z
      ∙ coefficient-ext laws comm width _ v (plus-vector laws comm width v (zero_vector ring width) h hz) h (λ b.
      coefficient-plus laws comm width v (zero_vector ring width) b h hz ∙ ap (ring.add (co v b)) (coefficient-zero laws comm width b)
      ∙ laws.add_zero (co v b) (coefficient-value laws comm width v b h))

  -- ---- made monic

  module _ (v : Vector F) (t : Term) (x : F) (h : IsIn M v) (gt : IsGreatestTerm cmp v t x) where
    at : IsTermWithin width t × (coefficient_at ring v t ≡ x) × (x ≢ ring.zero)
    at = greatest-at L v t x h gt

    pub lead-value : ring.IsValue x
    lead-value = subst ring.IsValue at.1 (coefficient-value laws comm width v t h)

    pub inverse-value : ring.IsValue (inverse x)
    inverse-value = L.field.inverse_value x lead-value at.2

    pub monic-vector : IsIn M (times_constant (inverse x) v)
    monic-vector = constant-vector (inverse x) v inverse-value h

    lead_one : co (times_constant (inverse x) v) t ≡ ring.one
    lead_one =
        coefficient-constant (inverse x) v t inverse-value h ∙ ap (ring.mul (inverse x)) at.1
        ∙ L.field.commutes (inverse x) x inverse-value lead-value ∙ L.field.mul_inverse x lead-value at.2

    -- made monic it has the same greatest term, with coefficient 1
    pub monic-greatest : IsGreatestTerm cmp (times_constant (inverse x) v) t ring.one
    monic-greatest = subst (IsGreatestTerm cmp (times_constant (inverse x) v) t) lead_one
        (greatest-from L (times_constant (inverse x) v) t monic-vector (λ z. L.field.one_zero (sym lead_one ∙ z)) (λ b hb n.
        greatest-above L v t x h gt b (λ z. n (coefficient-constant (inverse x) v b inverse-value h ∙ ap (ring.mul (inverse x)) z ∙ mul_zero laws (inverse x) inverse-value))))

    -- and times its first coefficient it is the vector
    pub monic-back : v ≡ times_constant x (times_constant (inverse x) v)
    monic-back = coefficient-ext laws comm width v _ h (constant-vector x (times_constant (inverse x) v) lead-value monic-vector) (λ b.
        let vb = coefficient-value laws comm width v b h in
        sym (coefficient-constant x (times_constant (inverse x) v) b lead-value monic-vector
        ∙ ap (ring.mul x) (coefficient-constant (inverse x) v b inverse-value h) ∙ sym (laws.mul_assoc x (inverse x) (co v b) lead-value inverse-value vb)
        ∙ ap (λ u. ring.mul u (co v b)) (L.field.mul_inverse x lead-value at.2) ∙ laws.one_mul (co v b) vb))
