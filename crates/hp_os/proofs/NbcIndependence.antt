-- The e_S of the sets S without broken circuit are independent modulo the Orlik-Solomon ideal. So an element has at
-- most one normal form.
use Rattle.std.specs.Prelude.{◌≡◌, ◌≢◌, List, [], ◌∷◌}
use Rattle.std.specs.declared.cmp.Ordering.{Ordering}
use Rattle.std.specs.declared.cmp.Ordering.TheVariants.{Less, Equal, Greater}
use Rattle.std.specs.Cmp.{tied_itself}
use Rattle.std.proofs.lemmas.List.Elements.{All-head, All-tail}
use mathlib.Core.Path.{refl, sym, ap, ◌∙◌, subst}
use Rattle.hp_algebra.specs.Ring.{IsRing}
use Rattle.hp_algebra.proofs.Rings.{same_from_difference}
use Rattle.hp_sets.specs.Sets.{Set, IsSetWithin, cmp_listed}
use Rattle.hp_sets.specs.ListedOrder.{cmp_listed_total}
use Rattle.hp_sums.proofs.Collected.{sum-after}
use Rattle.hp_sums.proofs.SumLaws.{negative-keys, plus-keys}
use Rattle.hp_sums.proofs.WeightedSums.{weighted-none}
use Rattle.hp_arr.proofs.Setting.{Setting, n}
use Rattle.hp_circuits.proofs.NbcLaw.{Nbc}
use Rattle.hp_exterior.specs.Exterior.{Ext}
use Rattle.hp_exterior.proofs.Inserted.{set_up}
use Rattle.hp_exterior.proofs.Negations.{both_sides}
use Rattle.hp_os.specs.OrlikSolomon.{IsDependentSet, IsElement, ext_minus}
use Rattle.hp_os.proofs.IdealSetting.{Congruent, Element, Fn, In, NbcOnly, Normal, Summed, W, sums}
use Rattle.hp_os.proofs.ElementLaws.{by_values, element-minus, element-okay, w-minus, w-plus, w-value}
use Rattle.hp_os.proofs.IdealLaws.{Deps, Factors, element-term, sum_terms, terms-element}
use Rattle.hp_os.proofs.IdealProducts.{at-term}
use Rattle.hp_os.proofs.Congruences.{congruent-sym, congruent-trans}
use Rattle.hp_os.proofs.NbcDuals.{Null, dual}

less_apart : (k j : Set) → cmp_listed k j ≡ Less → j ≡ k → ⊥
less_apart k j l e = clash (sym (tied_itself cmp_listed_total k) ∙ ap (cmp_listed k) (sym e) ∙ l)
  where
    tell : Ordering → Type 0
    tell Less = ⊥
    tell Equal = Unit {0}
    tell Greater = Unit {0}

    clash : Equal ≡ Less → ⊥
    clash e = subst tell e tt

module _ {K : Type 0} (S : Setting K) where
  open S use {ring, numbers, arr}

  abbrev R : IsRing S.ring
  R = S.field.is_ring

  abbrev Factor : Ext K × Set → Type 0
  Factor t = IsElement S.ring S.numbers S.arr t.0

  abbrev DepSet : Ext K × Set → Type 0
  DepSet t = IsDependentSet S.ring S.numbers S.arr t.1

  -- a functional that vanishes at the terms vanishes at their sums
  null-terms : (g : Set → K) → Fn S g → Null S g → (ts : List (Ext K × Set)) → Factors S ts → Deps S ts
      → W S g (sum_terms S ts) ≡ ring.zero
  null-terms g gv z [] f d = refl
  null-terms g gv z (t ∷ ts) f d =
      let e = All-head Factor t ts f in
      let k = All-head DepSet t ts d in
      let r = All-tail Factor t ts f in
      let q = All-tail DepSet t ts d in
      w-plus S g gv _ _ (element-term S t.0 t.1 e k.0).0.is_sum (terms-element S ts r q).0.is_sum
      ∙ both_sides ring.add _ _ _ _
      (at-term S g gv t.0 t.1 e k.0 (λ s. ring.zero) (λ s h. z s t.1 h (set_up (n S) t.1 k.0) k.1)
      ∙ weighted-none (sums S) (λ s. ring.zero) t.0 (element-okay S t.0 e) (λ i d l. refl))
      (null-terms g gv z ts r q)
      ∙ R.add_zero _ R.zero_value

  -- such a functional is zero at every element of the ideal
  pub null-ideal : (g : Set → K) → Fn S g → Null S g → (x : Ext K) → In S x → W S g x ≡ ring.zero
  null-ideal g gv z x h = ap (W S g) h.is_sum ∙ null-terms g gv z h.terms h.factors h.dependent

  -- A combination of sets without broken circuit that is in the ideal is zero.
  pub nbc_independent : (r : Ext K) → Element S r → NbcOnly S r → In S r → r ≡ []
  nbc_independent [] e b h = refl
  nbc_independent (x ∷ r) e b h =
      let Good : Set × K → Type 0 = λ t. ring.IsValue t.1 × (t.1 ≢ ring.zero) in
      let Key : Set × K → Type 0 = λ t. IsSetWithin (n S) t.0 in
      let Kept : Set × K → Type 0 = λ t. Nbc S t.0 in
      let good = All-head Good x r e.0.is_sum.values in
      let w = dual S x.0 (set_up (n S) x.0 (All-head Key x r e.1)) (All-head Kept x r b) in
      let g = w.0 in
      let q = w.1 in
      let rest : W S g r ≡ ring.zero =
      weighted-none (sums S) g r (λ i d l. (All-tail Good x r e.0.is_sum.values i d l).0) (λ i d l.
      q.elsewhere _ (set_up (n S) _ (All-tail Key x r e.1 i d l)) (All-tail Kept x r b i d l)
      (λ s. less_apart x.0 _ (sum-after (sums S) x r e.0.is_sum i d l) s)) in
      absurd (good.1 (
      sym (both_sides ring.add _ _ _ _ (ap (ring.mul x.1) q.at_self ∙ R.mul_one x.1 good.0) rest ∙ R.add_zero x.1 good.0)
      ∙ null-ideal g q.values q.null (x ∷ r) h))

  -- ---- normal forms

  -- congruent elements on sets without broken circuit are equal
  pub nbc_same : (r s : Ext K) → Element S r → Element S s → NbcOnly S r → NbcOnly S s → Congruent S r s → r ≡ s
  nbc_same r s hr hs br bs c =
      let Key : Set → Type 0 = λ t. Nbc S t in
      let nothing : ext_minus ring r s ≡ [] =
      nbc_independent _ (element-minus S r s hr hs) (plus-keys (sums S) Key r _ br (negative-keys (sums S) Key s bs)) c in
      by_values S r s hr.0.is_sum hs.0.is_sum (λ g gv.
      same_from_difference R _ _ (w-value S g gv r (element-okay S r hr)) (w-value S g gv s (element-okay S s hs))
      (sym (w-minus S g gv r s hr.0.is_sum hs.0.is_sum) ∙ ap (W S g) nothing))

  -- an element has at most one normal form
  pub normal_unique : (x r s : Ext K) → Summed S x → Normal S x r → Normal S x s → r ≡ s
  normal_unique x r s h p q =
      let hr = p.element.0.is_sum in
      let hs = q.element.0.is_sum in
      nbc_same r s p.element q.element p.reduced q.reduced
      (congruent-trans S r x s hr h hs (congruent-sym S x r h hr p.congruent) q.congruent)

  -- a normal form of one of two congruent elements is one of the other
  pub normal-congruent : (x y r : Ext K) → Summed S x → Summed S y → Normal S y r → Congruent S x y → Normal S x r
  normal-congruent x y r hx hy q p = record {
    element = q.element;
    reduced = q.reduced;
    congruent = congruent-trans S x y r hx hy q.element.0.is_sum p q.congruent;
  }

  pub congruent-normal : (x y r : Ext K) → Summed S x → Summed S y → Normal S x r → Normal S y r → Congruent S x y
  congruent-normal x y r hx hy p q =
      let hr = p.element.0.is_sum in
      congruent-trans S x r y hx hr hy p.congruent (congruent-sym S y r hy hr q.congruent)
