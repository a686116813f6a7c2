-- Elements of the exterior algebra by their first terms: negatives, sums of one term, coefficients.
use Rattle.std.specs.Prelude.{◌≡◌, List, [], ◌∷◌, map, cond, All, Some}
use Rattle.std.specs.declared.cmp.Ordering.TheVariants.{Less, Greater}
use Rattle.std.specs.Option.{unwrap_or}
use Rattle.std.specs.Ordering.{is_eq}
use Rattle.std.specs.FinMap.Entries.{find}
use Rattle.std.proofs.lemmas.List.Elements.{All-tail, All-map}
use mathlib.Core.Path.{sym, ap, ◌∙◌, subst}
use Rattle.hp_algebra.specs.Ring.{RingOf, IsField}
use Rattle.hp_sets.specs.Sets.{Set, IsSetWithin, cmp_listed}
use Rattle.hp_sums.specs.FiniteSums.{HasValues}
use Rattle.hp_sums.proofs.SumSetting.{SumSetting}
use Rattle.hp_sums.proofs.Collected.{sum-tail}
use Rattle.hp_sums.proofs.FirstTerms.{find_after, negated_sum, negative_negated, one_term}
use Rattle.hp_sums.proofs.Merges.{before_all}
use Rattle.hp_exterior.specs.Exterior.{Ext, IsExt, ext_coefficient, ext_neg, ext_of, ext_plus, monomial}
use Rattle.hp_exterior.specs.ExteriorSetting.{ext_setting}
use Rattle.hp_exterior.specs.ExteriorRing.{ext_of-IsExt, plus-IsExt}

module _ {F : Type 0} {ring : RingOf F} {inverse : F → F} (field : IsField ring inverse) where
  abbrev pub setting : SumSetting Set F
  setting = ext_setting field.is_ring field.commutes

  pub rest_ext : (t : Set × F) (x : Ext F) → IsExt ring (t ∷ x) → IsExt ring x
  rest_ext t x f = record {
    is_sum = sum-tail setting t x f.is_sum;
    sets = All-tail (λ (u : Set × F). IsSetWithin 64 u.0) t x f.sets;
  }

  -- the sum is an element
  pub plus_ext : {a b x : Ext F} → IsExt ring a → IsExt ring b → x ≡ ext_plus ring a b → IsExt ring x
  plus_ext {a} {b} {x} f g e = subst (IsExt ring) (sym e) (plus-IsExt field.is_ring field.commutes a b f g)

  -- the negatives are the negative
  pub negatives_ext : {x y : Ext F} → IsExt ring x → y ≡ map (λ t. (t.0, ring.neg t.1)) x → IsExt ring y
  negatives_ext {x} {y} f e = subst (IsExt ring) (sym e) (record {
    is_sum = negated_sum setting x f.is_sum;
    sets = All-map (λ (u : Set × F). IsSetWithin 64 u.0) (λ (t : Set × F). (t.0, ring.neg t.1)) x f.sets;
  })

  pub negatives_value : {x y : Ext F} → IsExt ring x → y ≡ map (λ t. (t.0, ring.neg t.1)) x → y ≡ ext_neg ring x
  negatives_value {x} {y} f e = e ∙ sym (negative_negated setting x f.is_sum)

  -- the sum of terms with sets is an element
  pub collected_ext : (ts : List (Set × F)) {x : Ext F} → HasValues ring ts → All (λ t. IsSetWithin 64 t.0) ts
      → x ≡ ext_of ring ts → IsExt ring x
  collected_ext ts v h e = subst (IsExt ring) (sym e) (ext_of-IsExt field.is_ring field.commutes ts v h)

  -- e_S itself
  pub one_value : (s : Set) {x : Ext F} → x ≡ (s, ring.one) ∷ [] → x ≡ monomial ring ring.one s
  one_value s {x} e = e ∙ sym (one_term setting s ring.one field.is_ring.one_value field.one_zero)

  -- ---- coefficients

  -- a term before the set tells nothing of its coefficient
  pub later_coefficient : {t : Set × F} {x xs : Ext F} (s : Set) → xs ≡ t ∷ x → Greater ≡ cmp_listed s t.0
      → ext_coefficient ring x s ≡ ext_coefficient ring xs s
  later_coefficient {t} {x} {xs} s e g =
      ap (λ r. unwrap_or (cond (is_eq r) (Some t.1) (find cmp_listed s x)) ring.zero) g
      ∙ ap (λ y. ext_coefficient ring y s) (sym e)

  -- where the first term is after the set, there is no such term
  pub no_coefficient : {t : Set × F} {x xs : Ext F} (s : Set) → IsExt ring xs → xs ≡ t ∷ x
      → Less ≡ cmp_listed s t.0 → ring.zero ≡ ext_coefficient ring xs s
  no_coefficient {t} {x} {xs} s f e l =
      let after = before_all setting s t x (subst (IsExt ring) e f).is_sum (sym l) in
      ap (λ o. unwrap_or o ring.zero) (sym (find_after setting s (t ∷ x) after)) ∙ ap (λ y. ext_coefficient ring y s) (sym e)

  pub rest_is_ext : {t : Set × F} {x xs : Ext F} → IsExt ring xs → xs ≡ t ∷ x → IsExt ring x
  rest_is_ext {t} {x} {xs} f e = rest_ext t x (subst (IsExt ring) e f)
