-- The Orlik-Solomon ideal is closed under sums, negatives and products from the left.
use Rattle.std.specs.Prelude.{◌≡◌, ℕ, zero, suc, List, [], ◌∷◌, ◌++◌, map, All}
use Rattle.std.proofs.lemmas.List.Elements.{All-nil, All-cons, All-head, All-tail, All-append}
use mathlib.Core.Path.{refl, sym, ap, ◌∙◌, subst}
use Rattle.hp_algebra.specs.Ring.{IsRing}
use Rattle.hp_algebra.proofs.Rings.{mul_zero, neg_mul}
use Rattle.hp_sets.specs.Sets.{Set, IsSetWithin}
use Rattle.hp_sets.proofs.SetLaws.{empty-set}
use Rattle.hp_sums.proofs.SumLaws.{zero_plus, plus_zero, plus_assoc}
use Rattle.hp_arr.proofs.Setting.{Setting, n}
use Rattle.hp_exterior.specs.Exterior.{Ext, IsExt, boundary, ext_neg, ext_plus, ext_ring, ext_signed, monomial, wedge}
use Rattle.hp_exterior.specs.ExteriorRing.{ext_is_ring}
use Rattle.hp_os.specs.OrlikSolomon.{IsDependentSet, IsElement, basis_element, ext_sum, ideal_term, multiple}
use Rattle.hp_os.proofs.IdealSetting.{Element, In, Dep, Summed, commutes, laws, sums}
use Rattle.hp_os.proofs.ElementLaws.{element-boundary, element-monomial, element-neg, element-nothing, element-plus, element-wedge}

module _ {K : Type 0} (S : Setting K) where
  open S use {ring, numbers, arr}

  -- the laws of the exterior algebra
  abbrev E : IsRing (ext_ring S.ring)
  E = ext_is_ring (laws S) (commutes S)

  abbrev pub Factors : List (Ext K × Set) → Type 0
  Factors ts = All (λ t. IsElement S.ring S.numbers S.arr t.0) ts

  abbrev pub Deps : List (Ext K × Set) → Type 0
  Deps ts = All (λ t. IsDependentSet S.ring S.numbers S.arr t.1) ts

  abbrev pub sum_terms : List (Ext K × Set) → Ext K
  sum_terms ts = ext_sum S.ring (map (ideal_term S.ring) ts)

  abbrev Factor : Ext K × Set → Type 0
  Factor t = IsElement S.ring S.numbers S.arr t.0

  abbrev DepSet : Ext K × Set → Type 0
  DepSet t = IsDependentSet S.ring S.numbers S.arr t.1

  -- ---- elements of the ideal are elements

  -- ∂ e_C
  pub element-relation : (c : Set) → IsSetWithin (n S) c → Element S (boundary ring (basis_element ring c))
  element-relation c k = element-boundary S _ (element-monomial S ring.one c (laws S).one_value k)

  pub element-term : (y : Ext K) (c : Set) → Element S y → IsSetWithin (n S) c → Element S (ideal_term ring (y, c))
  element-term y c h k = element-wedge S y _ h (element-relation c k)

  pub terms-element : (ts : List (Ext K × Set)) → Factors ts → Deps ts → Element S (sum_terms ts)
  terms-element [] f d = element-nothing S
  terms-element (t ∷ ts) f d =
      element-plus S _ _ (element-term t.0 t.1 (All-head Factor t ts f) (All-head DepSet t ts d).0)
      (terms-element ts (All-tail Factor t ts f) (All-tail DepSet t ts d))

  pub ideal-element : (x : Ext K) → In S x → Element S x
  ideal-element x h = subst (λ z. Element S z) (sym h.is_sum) (terms-element h.terms h.factors h.dependent)

  pub ideal-summed : (x : Ext K) → In S x → Summed S x
  ideal-summed x h = (ideal-element x h).0.is_sum

  -- ---- sums

  pub ideal-zero : In S []
  ideal-zero = record { terms = []; factors = All-nil Factor; dependent = All-nil DepSet; is_sum = refl }

  terms-append : (ts us : List (Ext K × Set)) → Factors ts → Deps ts → Factors us → Deps us
      → ext_plus ring (sum_terms ts) (sum_terms us) ≡ sum_terms (ts ++ us)
  terms-append [] us f d g e = zero_plus (sums S) _ (terms-element us g e).0.is_sum
  terms-append (t ∷ ts) us f d g e =
      let r = All-tail Factor t ts f in
      let q = All-tail DepSet t ts d in
      plus_assoc (sums S) _ _ _ (element-term t.0 t.1 (All-head Factor t ts f) (All-head DepSet t ts d).0).0.is_sum
      (terms-element ts r q).0.is_sum (terms-element us g e).0.is_sum
      ∙ ap (ext_plus ring (ideal_term ring t)) (terms-append ts us r q g e)

  pub ideal-plus : (x y : Ext K) → In S x → In S y → In S (ext_plus S.ring x y)
  ideal-plus x y h k = record {
    terms = h.terms ++ k.terms;
    factors = All-append Factor h.terms k.terms h.factors k.factors;
    dependent = All-append DepSet h.terms k.terms h.dependent k.dependent;
    is_sum = (λ i. ext_plus ring (h.is_sum i) (k.is_sum i))
        ∙ terms-append h.terms k.terms h.factors h.dependent k.factors k.dependent;
  }

  -- y ∧ ∂ e_C is in the ideal
  pub ideal-term : (y : Ext K) (c : Set) → Element S y → IsSetWithin (n S) c → Dep S c → In S (ideal_term S.ring (y, c))
  ideal-term y c h k d = record {
    terms = (y, c) ∷ [];
    factors = All-cons Factor (y, c) [] h (All-nil Factor);
    dependent = All-cons DepSet (y, c) [] (k, d) (All-nil DepSet);
    is_sum = sym (plus_zero (sums S) _ (element-term y c h k).0.is_sum);
  }

  -- ---- what preserves the ideal

  -- A map that is additive on elements, and sends each term y ∧ ∂ e_C with C dependent into the ideal.
  pub record PreservesTerms (f : Ext K → Ext K) : Type 0 where
    pub of_zero : f [] ≡ []
    pub of_plus : (x y : Ext K) → Element S x → Element S y → f (ext_plus S.ring x y) ≡ ext_plus S.ring (f x) (f y)
    pub of_term : (y : Ext K) (c : Set) → Element S y → IsSetWithin (n S) c → Dep S c
        → In S (f (ideal_term S.ring (y, c)))

  preserved : (f : Ext K → Ext K) → PreservesTerms f → (ts : List (Ext K × Set)) → Factors ts → Deps ts
      → In S (f (sum_terms ts))
  preserved f q [] h d = subst (In S) (sym q.of_zero) ideal-zero
  preserved f q (t ∷ ts) h d =
      let e = All-head Factor t ts h in
      let k = All-head DepSet t ts d in
      let r = All-tail Factor t ts h in
      let w = All-tail DepSet t ts d in
      subst (In S) (sym (q.of_plus _ _ (element-term t.0 t.1 e k.0) (terms-element ts r w)))
      (ideal-plus _ _ (q.of_term t.0 t.1 e k.0 k.1) (preserved f q ts r w))

  pub ideal-preserved : (f : Ext K → Ext K) → PreservesTerms f → (x : Ext K) → In S x → In S (f x)
  ideal-preserved f q x h = subst (λ z. In S (f z)) (sym h.is_sum) (preserved f q h.terms h.factors h.dependent)

  -- ---- products from the left

  wedge_preserves : (w : Ext K) → Element S w → PreservesTerms (λ x. wedge ring w x)
  wedge_preserves w h = record {
    of_zero = mul_zero E w h.0;
    of_plus = λ x y p q. E.mul_add w x y h.0 p.0 q.0;
    of_term = λ y c e k d. subst (In S) (E.mul_assoc w y _ h.0 e.0 (element-relation c k).0) (ideal-term _ c (element-wedge S w y h e) k d);
  }

  pub ideal-wedge : (w x : Ext K) → Element S w → In S x → In S (wedge S.ring w x)
  ideal-wedge w x h k = ideal-preserved (λ x. wedge ring w x) (wedge_preserves w h) x k

  pub ideal-multiple : (c : K) (x : Ext K) → ring.IsValue c → In S x → In S (multiple S.ring c x)
  ideal-multiple c x v h = ideal-wedge _ x (element-monomial S c [] v (empty-set (n S))) h

  -- ---- negatives

  -- -x = (-1) x
  neg_one : (x : Ext K) → IsExt ring x → wedge ring (ext_neg ring (monomial ring ring.one [])) x ≡ ext_neg ring x
  neg_one x h = neg_mul E (monomial ring ring.one []) x E.one_value h ∙ ap (ext_neg ring) (E.one_mul x h)

  pub ideal-neg : (x : Ext K) → In S x → In S (ext_neg S.ring x)
  ideal-neg x h =
      subst (In S) (neg_one x (ideal-element x h).0)
      (ideal-wedge _ x (element-neg S _ (element-monomial S ring.one [] (laws S).one_value (empty-set (n S)))) h)

  pub ideal-signed : (k : ℕ) (x : Ext K) → In S x → In S (ext_signed S.ring k x)
  ideal-signed zero x h = h
  ideal-signed (suc k) x h = ideal-neg _ (ideal-signed k x h)
