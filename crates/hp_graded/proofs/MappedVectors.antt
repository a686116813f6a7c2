-- A map of polynomials applied to each entry of vectors: sums, multiples, combinations, and what vectors generate.
use Rattle.std.specs.Prelude.{◌≡◌, ◌↔◌, ℕ, zero, suc, List, [], ◌∷◌, drop, map, length, All}
use Rattle.std.proofs.lemmas.List.{length-map}
use Rattle.std.proofs.lemmas.List.Elements.{All-cons, All-head, All-map, All-tail, All-weaker}
use mathlib.Core.Path.{refl, sym, ap, ◌∙◌, subst}
use native.Mathlib.Omega.{arith}
use Rattle.hp_algebra.specs.Ring.{RingOf, IsRing, IsCommutative}
use Rattle.hp_poly.specs.Polynomials.{Poly, IsPoly}
use Rattle.hp_poly.specs.Substitutions.{IsPolyMap, IsOneToOne, IsOnto}
use Rattle.hp_module.specs.Vectors.{Vector, IsVector, IsGenerated, combination, vector_plus, vector_scale, zero_vector}
use Rattle.hp_module.proofs.VectorCoefficients.{combination-vector, scale-vector}

-- the map applied to each entry
abbrev pub mapped : {F : Type 0} → (Poly F → Poly F) → Vector F → Vector F
mapped f v = map f v

-- the vectors of a set, mapped
abbrev pub IsMapped : {F : Type 0} → (Poly F → Poly F) → (Vector F → Type 0) → Vector F → Type 0
IsMapped {F} f N w = (v : Vector F) × N v × (w ≡ map f v)

module _ {F : Type 0} {ring : RingOf F} (laws : IsRing ring) (comm : IsCommutative ring) {f : Poly F → Poly F}
    (is : IsPolyMap ring f) where
  abbrev Polys : Vector F → Type 0
  Polys v = All (IsPoly ring) v

  pub mapped-polys : (v : Vector F) → All (IsPoly ring) v → All (IsPoly ring) (map f v)
  mapped-polys v h = All-map (IsPoly ring) f v (All-weaker (IsPoly ring) (λ p. IsPoly ring (f p)) is.value v h)

  pub mapped-vector : (width : ℕ) (v : Vector F) → IsVector ring width v → IsVector ring width (map f v)
  mapped-vector width v h = (length-map v f ∙ h.0, mapped-polys v h.1)

  pub mapped-vectors : (width : ℕ) (vs : List (Vector F)) → All (IsVector ring width) vs → All (IsVector ring width) (map (map f) vs)
  mapped-vectors width vs h = All-map (IsVector ring width) (map f) vs
      (All-weaker (IsVector ring width) (λ v. IsVector ring width (map f v)) (mapped-vector width) vs h)

  pub mapped-zero : (width : ℕ) → map f (zero_vector ring width) ≡ zero_vector ring width
  mapped-zero zero = refl
  mapped-zero (suc n) = let r = mapped-zero n in λ i. is.zero i ∷ r i

  pub mapped-plus : (v w : Vector F) → All (IsPoly ring) v → All (IsPoly ring) w
      → map f (vector_plus ring v w) ≡ vector_plus ring (map f v) (map f w)
  mapped-plus [] w h k = refl
  mapped-plus (p ∷ v) [] h k = refl
  mapped-plus (p ∷ v) (q ∷ w) h k =
      let e = is.plus p q (All-head (IsPoly ring) p v h) (All-head (IsPoly ring) q w k) in
      let r = mapped-plus v w (All-tail (IsPoly ring) p v h) (All-tail (IsPoly ring) q w k) in
      λ i. e i ∷ r i

  pub mapped-scale : (q : Poly F) (v : Vector F) → IsPoly ring q → All (IsPoly ring) v
      → map f (vector_scale ring q v) ≡ vector_scale ring (f q) (map f v)
  mapped-scale q [] g h = refl
  mapped-scale q (p ∷ v) g h =
      let e = is.times q p g (All-head (IsPoly ring) p v h) in
      let r = mapped-scale q v g (All-tail (IsPoly ring) p v h) in
      λ i. e i ∷ r i

  pub mapped-combination : (width : ℕ) (qs : Vector F) (vs : List (Vector F)) → All (IsPoly ring) qs → All (IsVector ring width) vs
      → map f (combination ring width qs vs) ≡ combination ring width (map f qs) (map (map f) vs)
  mapped-combination width [] vs g h = mapped-zero width
  mapped-combination width (q ∷ qs) [] g h = mapped-zero width
  mapped-combination width (q ∷ qs) (v ∷ vs) g h =
      let gq = All-head (IsPoly ring) q qs g in
      let gs = All-tail (IsPoly ring) q qs g in
      let hv = All-head (IsVector ring width) v vs h in
      let hs = All-tail (IsVector ring width) v vs h in
      let e = mapped-scale q v gq hv.1 in
      let r = mapped-combination width qs vs gs hs in
      mapped-plus (vector_scale ring q v) (combination ring width qs vs) (scale-vector laws comm width q v gq hv).1
      (combination-vector laws comm width qs vs gs hs).1
      ∙ (λ i. vector_plus ring (e i) (r i))

  pub mapped-generated : (width : ℕ) (vs : List (Vector F)) (v : Vector F) → All (IsVector ring width) vs
      → IsGenerated ring width vs v → IsGenerated ring width (map (map f) vs) (map f v)
  mapped-generated width vs v h g = (
    map f g.0,
    (length-map g.0 f ∙ g.1.0 ∙ sym (length-map vs (map f)), mapped-polys g.0 g.1.1),
    ap (map f) g.2 ∙ mapped-combination width g.0 vs g.1.1 h,
  )

module _ {F : Type 0} {ring : RingOf F} (laws : IsRing ring) (comm : IsCommutative ring) {f : Poly F → Poly F}
    (is : IsPolyMap ring f) (onto : IsOnto ring f) where
  -- each list of polynomials is the image of one
  lifted : (ps : Vector F) → All (IsPoly ring) ps → (qs : Vector F) × All (IsPoly ring) qs × (map f qs ≡ ps)
  lifted [] h = ([], h, refl)
  lifted (p ∷ ps) h =
      let q = onto p (All-head (IsPoly ring) p ps h) in
      let r = lifted ps (All-tail (IsPoly ring) p ps h) in
      (q.0 ∷ r.0, All-cons (IsPoly ring) q.0 r.0 q.1 r.1, λ i. q.2 i ∷ r.2 i)

  -- What the mapped vectors generate are the mapped members of what the vectors generate.
  pub generated-mapped : (width : ℕ) (vs : List (Vector F)) (w : Vector F) → All (IsVector ring width) vs
      → IsGenerated ring width (map (map f) vs) w ↔ IsMapped f (IsGenerated ring width vs) w
  generated-mapped width vs w h = (
    (λ k.
        let q = lifted k.0 k.1.1 in
        let long : length q.0 ≡ length vs = sym (length-map q.0 f) ∙ ap length q.2 ∙ k.1.0 ∙ length-map vs (map f) in (
          combination ring width q.0 vs,
          (q.0, (long, q.1), refl),
          k.2 ∙ ap (λ cs. combination ring width cs (map (map f) vs)) (sym q.2) ∙ sym (mapped-combination laws comm is width q.0 vs q.1 h),
        )),
    (λ k. subst (IsGenerated ring width (map (map f) vs)) (sym k.2) (mapped-generated laws comm is width vs k.0 h k.1)),
  )

  module _ (apart : IsOneToOne ring f) where
    same-vector : (v w : Vector F) → All (IsPoly ring) v → All (IsPoly ring) w → map f v ≡ map f w → v ≡ w
    same-vector [] [] h k e = refl
    same-vector [] (q ∷ w) h k e = absurd (omega (arith, ap length e))
    same-vector (p ∷ v) [] h k e = absurd (omega (arith, ap length e))
    same-vector (p ∷ v) (q ∷ w) h k e =
        let first = apart p q (All-head (IsPoly ring) p v h) (All-head (IsPoly ring) q w k) (ap (first_or []) e) in
        let rest = same-vector v w (All-tail (IsPoly ring) p v h) (All-tail (IsPoly ring) q w k) (ap (drop 1) e) in
        λ i. first i ∷ rest i
      where
        first_or : Poly F → List (Poly F) → Poly F
        first_or d [] = d
        first_or d (x ∷ xs) = x

    -- a vector is generated exactly where its image is
    pub mapped-iff : (width : ℕ) (vs : List (Vector F)) (v : Vector F) → All (IsVector ring width) vs → IsVector ring width v
        → IsGenerated ring width vs v ↔ IsGenerated ring width (map (map f) vs) (map f v)
    mapped-iff width vs v h p = (
      mapped-generated laws comm is width vs v h,
      (λ k.
          let m = (generated-mapped width vs (map f v) h).0 k in
          let hm = combination-vector laws comm width m.1.0 vs m.1.1.1 h in
          let w : All (IsPoly ring) m.0 = subst (All (IsPoly ring)) (sym m.1.2) hm.1 in
          subst (IsGenerated ring width vs) (sym (same-vector v m.0 p.1 w m.2)) m.1),
    )
