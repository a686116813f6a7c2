-- Congruence modulo the Orlik-Solomon ideal is an equivalence, and passes to sums, products and boundaries.
use Rattle.std.specs.Prelude.{◌≡◌, []}
use mathlib.Core.Path.{sym, ap, ◌∙◌, subst}
use Rattle.hp_algebra.specs.Ring.{IsRing}
use Rattle.hp_algebra.proofs.Rings.{mul_zero, neg_mul, neg_neg, zero_add}
use Rattle.hp_sets.specs.Sets.{Set}
use Rattle.hp_sets.proofs.SetLaws.{empty-set}
use Rattle.hp_sums.proofs.SumLaws.{plus_zero}
use Rattle.hp_arr.proofs.Setting.{Setting}
use Rattle.hp_exterior.specs.Exterior.{Ext, ext_neg, ext_plus, ext_ring, wedge}
use Rattle.hp_exterior.specs.ExteriorRing.{ext_is_ring}
use Rattle.hp_exterior.proofs.Negations.{neg_add, neg_from_zero, both_sides, four}
use Rattle.hp_os.specs.OrlikSolomon.{ext_minus, multiple}
use Rattle.hp_os.proofs.IdealSetting.{Congruent, Element, Fn, In, Summed, W, commutes, laws, sums}
use Rattle.hp_os.proofs.ElementLaws.{by_values, element-monomial, w-neg, okay, summed-minus, summed-nothing, summed-plus, w-minus, w-plus, w-rest, w-value}
use Rattle.hp_os.proofs.IdealLaws.{ideal-neg, ideal-plus, ideal-summed, ideal-wedge, ideal-zero}
use Rattle.hp_os.proofs.IdealProducts.{ideal-wedge_right}

module _ {K : Type 0} (S : Setting K) where
  open S use {ring}

  abbrev R : IsRing S.ring
  R = S.field.is_ring

  abbrev E : IsRing (ext_ring S.ring)
  E = ext_is_ring (laws S) (commutes S)

  -- ---- congruence by values

  sub_add : (a b c : K) → ring.IsValue b → ring.IsValue c → a ≡ ring.add b c → ring.add a (ring.neg b) ≡ c
  sub_add a b c vb vc e =
      let nb = R.neg_value b vb in
      ap (λ z. ring.add z (ring.neg b)) (e ∙ R.add_comm b c vb vc) ∙ R.add_assoc c b _ vc vb nb ∙ ap (ring.add c) (R.add_neg b vb) ∙ R.add_zero c vc

  -- x is congruent to y where their values differ by those of an element of the ideal
  pub congruent-by : (x y z : Ext K) → Summed S x → Summed S y → In S z
      → ((g : Set → K) → Fn S g → W S g x ≡ ring.add (W S g y) (W S g z)) → Congruent S x y
  congruent-by x y z h k i e =
      subst (In S) (by_values S _ _ (ideal-summed S z i) (summed-minus S x y h k) (λ g gv.
      sym (w-minus S g gv x y h k ∙ sub_add _ _ _ (w-value S g gv y (okay S y k)) (w-value S g gv z (okay S z (ideal-summed S z i))) (e g gv)))) i

  -- x is in the ideal exactly where it is congruent to zero
  pub in-congruent : (x : Ext K) → In S x → Congruent S x []
  in-congruent x h =
      let s = ideal-summed S x h in
      congruent-by x [] x s (summed-nothing S) h (λ g gv. sym (zero_add R _ (w-value S g gv x (okay S x s))))

  pub congruent-in : (x : Ext K) → Summed S x → Congruent S x [] → In S x
  congruent-in x h i = subst (In S) (plus_zero (sums S) x h) i

  -- ---- an equivalence

  pub congruent-same : (x : Ext K) → Summed S x → Congruent S x x
  congruent-same x h =
      congruent-by x x [] h h (ideal-zero S) (λ g gv. sym (R.add_zero _ (w-value S g gv x (okay S x h))))

  pub congruent-sym : (x y : Ext K) → Summed S x → Summed S y → Congruent S x y → Congruent S y x
  congruent-sym x y h k p =
      subst (In S) (by_values S _ _ (ideal-summed S _ (ideal-neg S _ p)) (summed-minus S y x k h) (λ g gv.
      let vx = w-value S g gv x (okay S x h) in
      let vy = w-value S g gv y (okay S y k) in
      w-neg S g gv _ (ideal-summed S _ p) ∙ ap ring.neg (w-minus S g gv x y h k)
      ∙ neg_add R _ _ vx (R.neg_value _ vy) ∙ ap (ring.add (ring.neg (W S g x))) (neg_neg R _ vy)
      ∙ R.add_comm _ _ (R.neg_value _ vx) vy ∙ sym (w-minus S g gv y x k h))) (ideal-neg S _ p)

  pub congruent-trans : (x y z : Ext K) → Summed S x → Summed S y → Summed S z → Congruent S x y → Congruent S y z
      → Congruent S x z
  congruent-trans x y z hx hy hz p q =
      congruent-by x z _ hx hz (ideal-plus S _ _ p q) (λ g gv.
      let vx = w-value S g gv x (okay S x hx) in
      let vy = w-value S g gv y (okay S y hy) in
      let vz = w-value S g gv z (okay S z hz) in
      let vp = w-value S g gv _ (okay S _ (ideal-summed S _ p)) in
      let vq = w-value S g gv _ (okay S _ (ideal-summed S _ q)) in
      w-rest S g gv x y hx hy
      ∙ ap (λ u. ring.add u (W S g (ext_minus ring x y))) (w-rest S g gv y z hy hz)
      ∙ R.add_assoc _ _ _ vz vq vp
      ∙ ap (ring.add (W S g z)) (R.add_comm _ _ vq vp ∙ sym (w-plus S g gv _ _ (ideal-summed S _ p) (ideal-summed S _ q))))

  -- ---- sums, products and the boundary

  pub congruent-plus : (x y u v : Ext K) → Summed S x → Summed S y → Summed S u → Summed S v → Congruent S x u
      → Congruent S y v → Congruent S (ext_plus S.ring x y) (ext_plus S.ring u v)
  congruent-plus x y u v hx hy hu hv p q =
      congruent-by _ _ _ (summed-plus S x y hx hy) (summed-plus S u v hu hv) (ideal-plus S _ _ p q) (λ g gv.
      w-plus S g gv x y hx hy
      ∙ both_sides ring.add _ _ _ _ (w-rest S g gv x u hx hu) (w-rest S g gv y v hy hv)
      ∙ four R _ _ _ _ (w-value S g gv u (okay S u hu)) (w-value S g gv _ (okay S _ (ideal-summed S _ p)))
      (w-value S g gv v (okay S v hv)) (w-value S g gv _ (okay S _ (ideal-summed S _ q)))
      ∙ sym (both_sides ring.add _ _ _ _ (w-plus S g gv u v hu hv) (w-plus S g gv _ _ (ideal-summed S _ p) (ideal-summed S _ q))))

  -- w ∧ x and w ∧ y, where x and y are congruent
  pub congruent-wedge : (w x y : Ext K) → Element S w → Element S x → Element S y → Congruent S x y
      → Congruent S (wedge S.ring w x) (wedge S.ring w y)
  congruent-wedge w x y h hx hy p =
      subst (In S) (E.mul_add w x _ h.0 hx.0 (E.neg_value y hy.0) ∙ ap (ext_plus ring (wedge ring w x)) (turned w y h hy))
      (ideal-wedge S w _ h p)
    where
      turned : (w y : Ext K) → Element S w → Element S y → wedge ring w (ext_neg ring y) ≡ ext_neg ring (wedge ring w y)
      turned w y h k =
          neg_from_zero E _ _ (E.mul_value w y h.0 k.0) (E.mul_value w _ h.0 (E.neg_value y k.0))
          (sym (E.mul_add w y _ h.0 k.0 (E.neg_value y k.0)) ∙ ap (wedge ring w) (E.add_neg y k.0) ∙ mul_zero E w h.0)

  -- x ∧ w and y ∧ w
  pub congruent-wedge_right : (x y w : Ext K) → Element S x → Element S y → Element S w → Congruent S x y
      → Congruent S (wedge S.ring x w) (wedge S.ring y w)
  congruent-wedge_right x y w hx hy h p =
      subst (In S) (E.add_mul x _ w hx.0 (E.neg_value y hy.0) h.0 ∙ ap (ext_plus ring (wedge ring x w)) (neg_mul E y w hy.0 h.0))
      (ideal-wedge_right S _ w p h)

  pub congruent-multiple : (c : K) (x y : Ext K) → ring.IsValue c → Element S x → Element S y → Congruent S x y
      → Congruent S (multiple S.ring c x) (multiple S.ring c y)
  congruent-multiple c x y v hx hy p =
      congruent-wedge _ x y (element-monomial S c [] v (empty-set _)) hx hy p
