-- The product of the powers of the forms carries each derivation in the first variables into D(A, m), and is not zero
-- at a point off the hyperplanes.
use Rattle.std.specs.Prelude.{◌≡◌, ◌≢◌, ◌≤◌, ℕ, zero, suc, List, [], ◌∷◌, map, All, Some, slice_get}
use Rattle.std.proofs.lemmas.List.{length-map}
use Rattle.std.proofs.lemmas.List.Elements.{All-head, All-map, All-tail, All-weaker}
use mathlib.Core.Logic.{inl, inr}
use mathlib.Core.Path.{refl, sym, ap, ◌∙◌, subst}
use native.Mathlib.Omega.{arith}
use Rattle.hp_algebra.specs.Ring.{RingOf, IsRing, IsCommutative, IsField, dot_of, power}
use Rattle.hp_algebra.specs.Rows.{IsRow}
use Rattle.hp_algebra.proofs.Rings.{field-domain}
use Rattle.hp_algebra.proofs.Dots.{dot-scale_right, dot_of_value}
use Rattle.hp_mono.specs.Monomials as mono
use Rattle.hp_mono.specs.Monomials.{vars}
use Rattle.hp_poly.specs.Polynomials.{Poly, IsPoly, IsInVariables, constant, form_power, poly_ring, poly_times, poly_value}
use Rattle.hp_poly.specs.PolyRing.{poly_commutes, poly_is_ring, term_poly-IsPoly}
use Rattle.hp_poly.proofs.FactorLaws.{power-value}
use Rattle.hp_poly.proofs.LinearForms.{form_power-IsPoly, value_form_power}
use Rattle.hp_module.specs.Vectors.{Vector, vector_scale}
use Rattle.hp_module.specs.Derivations.{IsDerivation, IsVectorInVariables, applied}
use Rattle.hp_der.proofs.FirstForms.{AllFirst, first-constant, first-dot, first-power, first-times}
use Rattle.hp_saito.proofs.RingImages.{value-homomorphism}

-- the product of the powers of the forms
abbrev pub power_product : {F : Type 0} → RingOf F → List (List F) → List ℕ → Poly F
power_product ring [] ms = constant ring ring.one
power_product ring (a ∷ fs) [] = constant ring ring.one
power_product ring (a ∷ fs) (m ∷ ms) = poly_times ring (form_power ring a m) (power_product ring fs ms)

module _ {F : Type 0} {ring : RingOf F} (laws : IsRing ring) (commutes : IsCommutative ring) where
  abbrev PR : IsRing (poly_ring ring)
  PR = poly_is_ring laws commutes

  -- ---- polynomials in the first l variables

  times-in : (l : ℕ) (p q : Poly F) → IsInVariables ring l p → IsInVariables ring l q
      → IsInVariables ring l (poly_times ring p q)
  times-in l p q f g = (PR.mul_value p q f.0 g.0, first-times laws commutes l p q f.0 g.0 f.1 g.1)

  constant-in : (l : ℕ) (c : F) → ring.IsValue c → IsInVariables ring l (constant ring c)
  constant-in l c v = (term_poly-IsPoly laws commutes c mono.one v refl, first-constant laws commutes l c)

  power-in : (l : ℕ) (a : List F) (m : ℕ) → IsRow ring l a → IsInVariables ring l (form_power ring a m)
  power-in l a m r = (
    form_power-IsPoly laws commutes a m r.1,
    first-power laws commutes l a m r.1
        (omega (arith, r.0)),
  )

  pub product-in : (l : ℕ) (fs : List (List F)) (ms : List ℕ) → All (IsRow ring l) fs
      → IsInVariables ring l (power_product ring fs ms)
  product-in l [] ms h = constant-in l ring.one laws.one_value
  product-in l (a ∷ fs) [] h = constant-in l ring.one laws.one_value
  product-in l (a ∷ fs) (m ∷ ms) h =
      times-in l _ _ (power-in l a m (All-head (IsRow ring l) a fs h))
      (product-in l fs ms (All-tail (IsRow ring l) a fs h))

  -- the power of each form is a factor of the product
  product-factor : (l : ℕ) (fs : List (List F)) (ms : List ℕ) → All (IsRow ring l) fs → (i : ℕ) (a : List F) (m : ℕ)
      → slice_get fs i ≡ Some a → slice_get ms i ≡ Some m
      → (rest : Poly F) × IsInVariables ring l rest × IsRow ring l a
      × (power_product ring fs ms ≡ poly_times ring (form_power ring a m) rest)
  product-factor l [] ms h i a m e f = absurd (cc)
  product-factor l (b ∷ fs) [] h i a m e f = absurd (cc)
  product-factor l (b ∷ fs) (n ∷ ms) h zero a m e f =
      let p : b ≡ a = cc in
      let q : n ≡ m = cc in (
        power_product ring fs ms,
        product-in l fs ms (All-tail (IsRow ring l) b fs h),
        subst (IsRow ring l) p (All-head (IsRow ring l) b fs h),
        λ i. poly_times ring (form_power ring (p i) (q i)) (power_product ring fs ms),
      )
  product-factor l (b ∷ fs) (n ∷ ms) h (suc i) a m e f =
      let r = product-factor l fs ms (All-tail (IsRow ring l) b fs h) i a m e f in
      let pb = power-in l b n (All-head (IsRow ring l) b fs h) in
      let pa = power-in l a m r.2 in
      let x = form_power ring b n in
      let y = form_power ring a m in (
        poly_times ring x r.0,
        times-in l x r.0 pb r.1,
        r.2,
        ap (poly_times ring x) r.3 ∙ sym (PR.mul_assoc x y r.0 pb.0 pa.0 r.1.0)
            ∙ ap (λ u. poly_times ring u r.0) (poly_commutes laws commutes x y pb.0 pa.0)
            ∙ PR.mul_assoc y x r.0 pa.0 pb.0 r.1.0,
      )

  -- The product times a derivation in the first variables is in D(A, m).
  pub multiple-derivation : (l : ℕ) (fs : List (List F)) (ms : List ℕ) → All (IsRow ring l) fs → (v : Vector F)
      → IsVectorInVariables ring l l v → IsDerivation ring l fs ms (vector_scale ring (power_product ring fs ms) v)
  multiple-derivation l fs ms h v f =
      let q = power_product ring fs ms in
      let hq = product-in l fs ms h in record {
        in_variables = (
          length-map v (poly_times ring q) ∙ f.0,
          All-map (IsInVariables ring l) (poly_times ring q) v (λ k d m. times-in l q _ hq (f.1 k d m)),
        );
        tangent = λ i a m e g.
            let r = product-factor l fs ms h i a m e g in
            let x = applied ring a v in
            let constants : All (IsInVariables ring l) (map (constant ring) a) =
            All-map (IsInVariables ring l) (constant ring) a (λ k d n. constant-in l _ (r.2.1 k d n)) in
            let first : (ps : List (Poly F)) → All (IsInVariables ring l) ps → All (AllFirst l) ps =
            λ ps g. All-weaker (IsInVariables ring l) (AllFirst l) (λ p h. h.1) ps g in
            let polys : (ps : List (Poly F)) → All (IsInVariables ring l) ps → All (IsPoly ring) ps =
            λ ps g. All-weaker (IsInVariables ring l) (IsPoly ring) (λ p h. h.0) ps g in
            let vx : IsPoly ring x = dot_of_value PR _ v (polys _ constants) (polys v f.1) in
            let hx : IsInVariables ring l x = (
              vx,
              first-dot laws commutes l _ v (polys _ constants) (polys v f.1) (first _ constants)
                  (first v f.1),
            ) in (
              poly_times ring r.0 x,
              times-in l r.0 x r.1 hx,
              dot-scale_right PR (poly_commutes laws commutes) q _ v hq.0 (polys _ constants) (polys v f.1)
                  ∙ ap (λ u. poly_times ring u x) r.3 ∙ PR.mul_assoc _ r.0 x (power-in l a m r.2).0 r.1.0 vx,
            );
      }

module _ {F : Type 0} {ring : RingOf F} {inverse : F → F} (field : IsField ring inverse) where
  abbrev L : IsRing ring
  L = field.is_ring

  power-nonzero : (y : F) (m : ℕ) → ring.IsValue y → y ≢ ring.zero → power ring y m ≢ ring.zero
  power-nonzero y zero v n e = field.one_zero e
  power-nonzero y (suc m) v n e = elim ((field-domain field).no_zero_divisors y _ v (power-value L y m v) e) [
    | inl z ↦ n z
    | inr z ↦ power-nonzero y m v n z
  ]

  -- where no form is zero, the product is not
  pub product-off : (l : ℕ) (x : List F) → l ≤ vars → IsRow ring l x → (fs : List (List F)) (ms : List ℕ)
      → All (IsRow ring l) fs → All (λ a. dot_of ring a x ≢ ring.zero) fs
      → poly_value ring x (power_product ring fs ms) ≢ ring.zero
  product-off l x few rx [] ms h n e = field.one_zero (sym (value-homomorphism L field.commutes x rx.1).one ∙ e)
  product-off l x few rx (a ∷ fs) [] h n e = field.one_zero (sym (value-homomorphism L field.commutes x rx.1).one ∙ e)
  product-off l x few rx (a ∷ fs) (m ∷ ms) h n e =
      let hom = value-homomorphism L field.commutes x rx.1 in
      let ra = All-head (IsRow ring l) a fs h in
      let hs = All-tail (IsRow ring l) a fs h in
      let pa = form_power-IsPoly L field.commutes a m ra.1 in
      let pq = (product-in L field.commutes l fs ms hs).0 in
      let same = value_form_power L field.commutes a x m ra.1 rx.1 (ra.0 ∙ sym rx.0) (omega (arith, rx.0, few)) in
      elim ((field-domain field).no_zero_divisors _ _ (hom.value _ pa) (hom.value _ pq)
      (sym (hom.product _ _ pa pq) ∙ e)) [
        | inl z ↦ power-nonzero (dot_of ring a x) m (dot_of_value L a x ra.1 rx.1)
            (All-head (λ b. dot_of ring b x ≢ ring.zero) a fs n) (sym same ∙ z)
        | inr z ↦ product-off l x few rx fs ms hs (All-tail (λ b. dot_of ring b x ≢ ring.zero) a fs n) z
      ]
