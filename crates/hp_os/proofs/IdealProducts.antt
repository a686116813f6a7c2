-- The Orlik-Solomon ideal is closed under products from the right and the boundary, and e_S is in it for each dependent
-- set S.
use Rattle.std.specs.Prelude.{◌≡◌, ◌*◌, [], ◌∷◌, length, All}
use Rattle.std.proofs.lemmas.List.Elements.{All-nil, All-cons, All-head, All-tail}
use mathlib.Core.Path.{refl, sym, ap, ◌∙◌, subst}
use Rattle.hp_algebra.specs.Ring.{IsRing}
use Rattle.hp_algebra.proofs.Rings.{mul_zero, zero_mul}
use Rattle.hp_sets.specs.Sets.{Set, IsSetWithin, cmp_listed}
use Rattle.hp_sums.specs.FiniteSums.{collect}
use Rattle.hp_sums.proofs.Collected.{collect-keys, collect-sum}
use Rattle.hp_sums.proofs.WeightedSums.{weighted_ext}
use Rattle.hp_arr.proofs.Setting.{Setting, n}
use Rattle.hp_exterior.specs.Exterior.{Ext, IsOfDegree, boundary, ext_plus, ext_ring, monomial, wedge}
use Rattle.hp_exterior.specs.ExteriorRing.{ext_is_ring}
use Rattle.hp_exterior.proofs.Inserted.{Up, set_up, up_set}
use Rattle.hp_exterior.proofs.Functionals.{at_boundary, at_wedge, boundary-ext, boundary-value, drops_all, wedge-value}
use Rattle.hp_exterior.proofs.WedgeFunctionals.{at-wedge}
use Rattle.hp_exterior.proofs.ElementFunctionals.{at-boundary_of, at-wedge_of, at_product, product-value}
use Rattle.hp_exterior.proofs.BoundaryLaws.{boundary-plus, boundary_boundary, boundary_wedge}
use Rattle.hp_exterior.proofs.DegreeLaws.{degree-boundary}
use Rattle.hp_exterior.proofs.GradedLaws.{wedge_swap}
use Rattle.hp_os.specs.OrlikSolomon.{basis_element, ideal_term}
use Rattle.hp_os.proofs.IdealSetting.{Dep, Element, Fn, In, Terms, W, commutes, laws, sums, wide}
use Rattle.hp_os.proofs.ElementLaws.{
  by_values,
  element-boundary,
  element-monomial,
  element-nothing,
  element-okay,
  element-plus,
  element-wedge,
  okay,
  summed-collect,
  summed-monomial,
  summed-plus,
  w-collect,
  w-monomial,
  w-plus,
}
use Rattle.hp_os.proofs.BrokenCircuits.{empty-independent}
use Rattle.hp_os.proofs.NullFunctionals.{front-boundary}
use Rattle.hp_os.proofs.IdealLaws.{
  PreservesTerms,
  element-relation,
  element-term,
  ideal-plus,
  ideal-preserved,
  ideal-signed,
  ideal-term,
  ideal-wedge,
  ideal-zero,
}

module _ {K : Type 0} (S : Setting K) where
  open S use {ring, numbers, arr}

  -- the laws of the exterior algebra
  abbrev E : IsRing (ext_ring S.ring)
  E = ext_is_ring (laws S) (commutes S)

  -- ---- elements as sums of their terms

  -- what holds of zero, of multiples of the e_S and of sums holds of each element
  pub element_sum : (P : Ext K → Type 0) → P []
      → ((x y : Ext K) → Element S x → Element S y → P x → P y → P (ext_plus S.ring x y))
      → ((c : K) (s : Set) → ring.IsValue c → IsSetWithin (n S) s → P (monomial S.ring c s))
      → (x : Ext K) → Element S x → P x
  element_sum P zero sum one x h = subst P (collect-sum (sums S) x h.0.is_sum) (go x (element-okay S x h) h.1).1
    where
      Val : Set × K → Type 0
      Val t = ring.IsValue t.1

      Keys : Set × K → Type 0
      Keys t = IsSetWithin (n S) t.0

      more : (t : Set × K) (ts : Ext K) → Val t → Terms S ts
          → ext_plus ring (monomial ring t.1 t.0) (collect cmp_listed ring ts) ≡ collect cmp_listed ring (t ∷ ts)
      more t ts v o =
          let a = summed-monomial S t.1 t.0 v in
          let b = summed-collect S ts o in
          let c : Terms S (t ∷ ts) = All-cons Val t ts v o in
          by_values S _ _ (summed-plus S _ _ a b) (summed-collect S (t ∷ ts) c) (λ g gv.
          w-plus S g gv _ _ a b ∙ (λ i. ring.add (w-monomial S g gv t.1 t.0 v i) (w-collect S g gv ts o i)) ∙ sym (w-collect S g gv (t ∷ ts) c))

      go : (ts : Ext K) → Terms S ts → All (λ t. IsSetWithin (n S) t.0) ts
          → Element S (collect cmp_listed ring ts) × P (collect cmp_listed ring ts)
      go [] o k = (element-nothing S, zero)
      go (t ∷ ts) o k =
          let v = All-head Val t ts o in
          let w = All-head Keys t ts k in
          let r = go ts (All-tail Val t ts o) (All-tail Keys t ts k) in
          let e = element-monomial S t.1 t.0 v w in
          subst (λ z. Element S z × P z) (more t ts v (All-tail Val t ts o))
          (element-plus S _ _ e r.0, sum _ _ e r.0 (one t.1 t.0 v w) r.1)

  -- ---- products from the right, and the boundary

  -- c e_S has the degree of its size
  degree-monomial : (c : K) (s : Set) → IsOfDegree ring (length s) (monomial ring c s)
  degree-monomial c s =
      let P : Set × K → Type 0 = λ t. length t.0 ≡ length s in
      collect-keys (sums S) (λ t. length t ≡ length s) ((s, c) ∷ []) (All-cons P (s, c) [] refl (All-nil P))

  -- ∂ e_C ∧ w is in the ideal
  relation-wedge : (c : Set) → IsSetWithin (n S) c → Dep S c → (w : Ext K) → Element S w
      → In S (wedge ring (boundary ring (basis_element ring c)) w)
  relation-wedge [] k d w h = absurd (empty-independent S d)
  relation-wedge (i ∷ c) k d w h =
      let z = boundary ring (basis_element ring (i ∷ c)) in
      let ez = element-relation S (i ∷ c) k in
      let dz : IsOfDegree ring (length c) z =
      degree-boundary (laws S) (commutes S) (length c) (basis_element ring (i ∷ c)) (degree-monomial ring.one (i ∷ c)) in
      element_sum (λ w. In S (wedge ring z w)) (subst (In S) (sym (mul_zero E z ez.0)) (ideal-zero S))
      (λ x y ex ey px py. subst (In S) (sym (E.mul_add z x y ez.0 ex.0 ey.0)) (ideal-plus S _ _ px py))
      (λ b s v q.
      let em = element-monomial S b s v q in
      subst (In S) (sym (wedge_swap (laws S) (commutes S) (length c) (length s) z (monomial ring b s) ez.0 em.0 dz (degree-monomial b s)))
      (ideal-signed S (length c * length s) _ (ideal-term S (monomial ring b s) (i ∷ c) em k d))) w h

  pub ideal-wedge_right : (x w : Ext K) → In S x → Element S w → In S (wedge S.ring x w)
  ideal-wedge_right x w h k = ideal-preserved S (λ x. wedge ring x w) acts x h
    where
      acts : PreservesTerms S (λ x. wedge ring x w)
      acts = record {
        of_zero = zero_mul E w k.0;
        of_plus = λ x y p q. E.add_mul x y w p.0 q.0 k.0;
        of_term = λ y c e q d. subst (In S) (sym (E.mul_assoc y _ w e.0 (element-relation S c q).0 k.0))
            (ideal-wedge S y _ e (relation-wedge c q d w k));
      }

  -- ∂ (y ∧ ∂ e_C) is in the ideal
  boundary-term : (c : Set) → IsSetWithin (n S) c → Dep S c → (y : Ext K) → Element S y
      → In S (boundary ring (ideal_term ring (y, c)))
  boundary-term c k d y h =
      let z = boundary ring (basis_element ring c) in
      let ez = element-relation S c k in
      let eb = element-monomial S ring.one c (laws S).one_value k in
      element_sum (λ y. In S (boundary ring (wedge ring y z)))
      (subst (λ u. In S (boundary ring u)) (sym (zero_mul E z ez.0)) (ideal-zero S))
      (λ x y ex ey px py.
      subst (In S) (sym (ap (boundary ring) (E.add_mul x y z ex.0 ey.0 ez.0)
      ∙ boundary-plus (laws S) (commutes S) _ _ (element-wedge S x z ex ez).0 (element-wedge S y z ey ez).0)) (ideal-plus S _ _ px py))
      (λ b s v q.
      let em = element-monomial S b s v q in
      subst (In S) (sym (boundary_wedge (laws S) (commutes S) (length s) (monomial ring b s) z em.0 ez.0 (degree-monomial b s)))
      (ideal-plus S _ _ (ideal-term S _ c (element-boundary S _ em) k d)
      (ideal-signed S (length s) _ (subst (In S) (sym (ap (wedge ring (monomial ring b s)) (boundary_boundary (laws S) (commutes S) _ eb.0) ∙ mul_zero E _ em.0))
      (ideal-zero S))))) y h

  -- the boundary of an element of the ideal is in the ideal
  pub ideal-boundary : (x : Ext K) → In S x → In S (boundary S.ring x)
  ideal-boundary x h = ideal-preserved S (boundary ring) acts x h
    where
      acts : PreservesTerms S (boundary S.ring)
      acts = record {
        of_zero = refl;
        of_plus = λ x y p q. boundary-plus (laws S) (commutes S) x y p.0 q.0;
        of_term = λ y c e k d. boundary-term c k d y e;
      }

  -- ---- the values at y ∧ ∂ e_C

  -- the value at ∂ e_C
  pub at-relation : (g : Set → K) → Fn S g → (c : Set) → W S g (boundary S.ring (basis_element S.ring c))
      ≡ at_boundary S.ring g c
  at-relation g gv c =
      let gb : Fn S (at_boundary ring g) = λ s. boundary-value (laws S) g s gv in
      at-boundary_of (laws S) (commutes S) g gv _ (okay S _ (summed-monomial S ring.one c (laws S).one_value))
      ∙ w-monomial S _ gb ring.one c (laws S).one_value
      ∙ (laws S).one_mul _ (gb c)

  pub at-term : (g : Set → K) → Fn S g → (y : Ext K) (c : Set) → Element S y → IsSetWithin (n S) c → (h : Set → K)
      → ((s : Set) → Up 0 (n S) s → at_boundary S.ring (λ u. at_wedge S.ring g s u) c ≡ h s)
      → W S g (ideal_term S.ring (y, c)) ≡ W S h y
  at-term g gv y c e k h agree =
      at-wedge_of (laws S) (commutes S) g gv y _ (element-okay S y e) (element-okay S _ (element-relation S c k))
      ∙ weighted_ext (sums S) _ h y (λ i d l. here _ (e.1 i d l))
    where
      here : (s : Set) → IsSetWithin (n S) s
          → W S (at_product (laws S) (commutes S) g s) (boundary ring (basis_element ring c)) ≡ h s
      here s hs =
          let P : Set → K = at_product (laws S) (commutes S) g s in
          at-relation P (product-value (laws S) (commutes S) g gv s) c
          ∙ boundary-ext (laws S) P (λ u. at_wedge ring g s u) c
          (drops_all (λ u. P u ≡ at_wedge ring g s u) 0 (n S) c (set_up (n S) c k)
          (λ u j. at-wedge (laws S) (commutes S) g gv s u (wide S s hs) (wide S u (up_set (n S) u j))))
          ∙ agree s (set_up (n S) s hs)

  -- e_S is in the ideal where S is dependent
  pub ideal-dependent : (s : Set) → IsSetWithin (n S) s → Dep S s → In S (basis_element S.ring s)
  ideal-dependent [] h d = absurd (empty-independent S d)
  ideal-dependent (x ∷ s) h d =
      let up = set_up (n S) (x ∷ s) h in
      let one = (laws S).one_value in
      let e = element-monomial S ring.one (x ∷ []) one (up_set (n S) (x ∷ []) (up.0, up.1, tt)) in
      subst (In S) (by_values S _ _ (element-term S _ (x ∷ s) e h).0.is_sum (summed-monomial S ring.one (x ∷ s) one) (λ g gv.
      let f : Set → K = λ t. at_boundary ring (λ u. at_wedge ring g t u) (x ∷ s) in
      let fv : Fn S f = λ t. boundary-value (laws S) (λ u. at_wedge ring g t u) (x ∷ s) (λ u. wedge-value (laws S) g t u gv) in
      at-term g gv _ (x ∷ s) e h f (λ t q. refl)
      ∙ w-monomial S f fv ring.one (x ∷ []) one ∙ (laws S).one_mul _ (fv (x ∷ []))
      ∙ front-boundary (laws S) (n S) g gv x s up
      ∙ sym (w-monomial S g gv ring.one (x ∷ s) one ∙ (laws S).one_mul _ (gv (x ∷ s)))))
      (ideal-term S _ (x ∷ s) e h d)
