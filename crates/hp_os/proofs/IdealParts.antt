-- What an element of the Orlik-Solomon ideal gives at every functional. The part of such an element on the sets whose
-- closure passes a test is in the ideal.
use Rattle.std.specs.Prelude.{◌≡◌, ◌≢◌, ◌⊎◌, Bool, true, false, cond, List, [], ◌∷◌, filter, All}
use Rattle.std.specs.FinMap.Entries.{is_sorted-where_key}
use Rattle.std.proofs.lemmas.List.Elements.{All-filter, All-head, All-tail}
use mathlib.Core.Logic.{inl, inr}
use mathlib.Core.Path.{refl, sym, ap, ◌∙◌, subst}
use Rattle.hp_algebra.specs.Ring.{IsRing}
use Rattle.hp_algebra.proofs.Rings.{mul_zero, zero_add}
use Rattle.hp_sets.specs.Sets.{Set, IsSetWithin, cmp_listed}
use Rattle.hp_arr.proofs.Setting.{Setting, cl, n}
use Rattle.hp_exterior.specs.Exterior.{Ext, ext_neg, ext_plus}
use Rattle.hp_exterior.proofs.Inserted.{Up, join, join-up, set_up, up_set}
use Rattle.hp_exterior.proofs.Negations.{both_sides}
use Rattle.hp_exterior.proofs.Functionals.{
  AtDrops,
  IsSigned,
  at_boundary,
  at_wedge,
  boundary-add,
  boundary-value,
  boundary-zero,
  restricted,
  restricted-value,
  signed-restricted,
  wedge-signed,
  wedge-value,
}
use Rattle.hp_os.specs.OrlikSolomon.{IsElement, IsDependentSet, basis_element, ideal_term, multiple}
use Rattle.hp_os.proofs.IdealSetting.{Dep, Fn, In, Summed, Terms, W}
use Rattle.hp_os.proofs.ElementLaws.{
  by_values,
  element-monomial,
  element-okay,
  okay,
  w-monomial,
  w-multiple,
  w-neg,
  w-plus,
  w-value,
}
use Rattle.hp_os.proofs.IdealLaws.{
  Deps,
  Factors,
  element-term,
  ideal-element,
  ideal-multiple,
  ideal-neg,
  ideal-plus,
  ideal-summed,
  ideal-term,
  ideal-zero,
  sum_terms,
  terms-element,
}
use Rattle.hp_os.proofs.IdealProducts.{at-term, ideal-dependent}
use Rattle.hp_os.proofs.NbcDuals.{drops_from, relation-terms}

module _ {K : Type 0} (S : Setting K) where
  open S use {ring, numbers, arr}

  abbrev R : IsRing S.ring
  R = S.field.is_ring

  -- ---- what an element of the ideal gives at every functional

  -- some element of the ideal has these values
  abbrev pub IsFromIdeal : ((Set → K) → K) → Type 0
  IsFromIdeal φ = (z : Ext K) × In S z × ((g : Set → K) → Fn S g → φ g ≡ W S g z)

  pub from-ext : (φ ψ : (Set → K) → K) → ((g : Set → K) → Fn S g → φ g ≡ ψ g) → IsFromIdeal ψ → IsFromIdeal φ
  from-ext φ ψ e a = (a.0, a.1, λ g gv. e g gv ∙ a.2 g gv)

  pub from-zero : IsFromIdeal (λ g. ring.zero)
  from-zero = ([], ideal-zero S, λ g gv. refl)

  pub from-add : (φ ψ : (Set → K) → K) → IsFromIdeal φ → IsFromIdeal ψ → IsFromIdeal (λ g. ring.add (φ g) (ψ g))
  from-add φ ψ a b = (
    ext_plus ring a.0 b.0,
    ideal-plus S a.0 b.0 a.1 b.1,
    λ g gv. both_sides ring.add _ _ _ _ (a.2 g gv) (b.2 g gv)
        ∙ sym (w-plus S g gv a.0 b.0 (ideal-summed S a.0 a.1) (ideal-summed S b.0 b.1)),
  )

  pub from-neg : (φ : (Set → K) → K) → IsFromIdeal φ → IsFromIdeal (λ g. ring.neg (φ g))
  from-neg φ a = (
    ext_neg ring a.0,
    ideal-neg S a.0 a.1,
    λ g gv. ap ring.neg (a.2 g gv) ∙ sym (w-neg S g gv a.0 (ideal-summed S a.0 a.1)),
  )

  pub from-scale : (c : K) (φ : (Set → K) → K) → ring.IsValue c → IsFromIdeal φ → IsFromIdeal (λ g. ring.mul c (φ g))
  from-scale c φ v a = (
    multiple ring c a.0,
    ideal-multiple S c a.0 v a.1,
    λ g gv. ap (ring.mul c) (a.2 g gv) ∙ sym (w-multiple S g gv c a.0 v (ideal-element S a.0 a.1)),
  )

  pub from-cond : (b : Bool) (φ : (Set → K) → K) → IsFromIdeal φ → IsFromIdeal (λ g. cond b (φ g) ring.zero)
  from-cond true φ a = a
  from-cond false φ a = from-zero

  -- a boundary of such
  pub from-boundary : (f : (Set → K) → Set → K) (s : Set) → AtDrops (λ u. IsFromIdeal (λ g. f g u)) s
      → IsFromIdeal (λ g. at_boundary S.ring (f g) s)
  from-boundary f [] h = from-zero
  from-boundary f (x ∷ s) h =
      from-add (λ g. f g s) (λ g. ring.neg (at_boundary ring (λ u. f g (x ∷ u)) s)) h.0
      (from-neg (λ g. at_boundary ring (λ u. f g (x ∷ u)) s) (from-boundary (λ g u. f g (x ∷ u)) s h.1))

  -- the value at a dependent set, but for the sign
  pub from-dependent : (φ : (Set → K) → K) (j : Set) → IsSigned S.ring φ j → IsSetWithin (n S) j → Dep S j
      → IsFromIdeal φ
  from-dependent φ j s h d = pick s
    where
      value : (g : Set → K) → Fn S g → W S g (basis_element ring j) ≡ g j
      value g gv = w-monomial S g gv ring.one j R.one_value ∙ R.one_mul (g j) (gv j)

      m : In S (basis_element S.ring j)
      m = ideal-dependent S j h d

      pick : IsSigned ring φ j → IsFromIdeal φ
      pick (inl e) = from-ext φ (λ g. ring.zero) e from-zero
      pick (inr (inl e)) = (basis_element ring j, m, λ g gv. e g gv ∙ sym (value g gv))
      pick (inr (inr e)) = from-ext φ (λ g. ring.neg (g j)) e (from-neg (λ g. g j) (basis_element ring j, m, λ g gv. sym (value g gv)))

  -- ---- the part of an element where a test holds

  abbrev pub part : (Set → Bool) → Ext K → Ext K
  part p x = filter (λ t. p t.0) x

  pub part-summed : (p : Set → Bool) (x : Ext K) → Summed S x → Summed S (part p x)
  part-summed p x h = record {
    sorted = is_sorted-where_key cmp_listed p x h.sorted;
    values = All-filter (λ (t : Set × K). p t.0) (λ t. ring.IsValue t.1 × (t.1 ≢ ring.zero)) x h.values;
  }

  pub at-part : (p : Set → Bool) (g : Set → K) → Fn S g → (x : Ext K) → Terms S x
      → W S g (part p x) ≡ W S (restricted S.ring p g) x
  at-part p g gv [] h = refl
  at-part p g gv (t ∷ x) h =
      pick (p t.0) (All-head Val t x h) (w-value S _ (restricted-value R p g gv) x (All-tail Val t x h)) (at-part p g gv x (All-tail Val t x h))
    where
      Val : Set × K → Type 0
      Val u = ring.IsValue u.1

      pick : (b : Bool) → ring.IsValue t.1 → ring.IsValue (W S (restricted ring p g) x)
          → W S g (part p x) ≡ W S (restricted ring p g) x
          → W S g (cond b (t ∷ part p x) (part p x)) ≡ ring.add (ring.mul t.1 (cond b (g t.0) ring.zero)) (W S (restricted ring p g) x)
      pick true v w r = ap (ring.add (ring.mul t.1 (g t.0))) r
      pick false v w r = r ∙ sym (ap (λ z. ring.add z (W S (restricted ring p g) x)) (mul_zero R t.1 v) ∙ zero_add R _ w)

  module _ (p : Set → Bool) (same : (s t : Set) → cl S s ≡ cl S t → p s ≡ p t) where
    abbrev whole : Bool → Set → (Set → K) → Set → K
    whole b t g u = cond b (at_wedge ring g t u) ring.zero

    whole-value : (b : Bool) (t : Set) (g : Set → K) → Fn S g → Fn S (whole b t g)
    whole-value true t g gv u = wedge-value R g t u gv
    whole-value false t g gv u = R.zero_value

    abbrev rest : Bool → Set → (Set → K) → Set → K
    rest b t g u = ring.add (at_wedge ring (restricted ring p g) t u) (ring.neg (whole b t g u))

    rest-value : (b : Bool) (t : Set) (g : Set → K) → Fn S g → Fn S (rest b t g)
    rest-value b t g gv u = R.add_value _ _ (wedge-value R _ t u (restricted-value R p g gv)) (R.neg_value _ (whole-value b t g gv u))

    split : (x y : K) → ring.IsValue x → ring.IsValue y → x ≡ ring.add (ring.add x (ring.neg y)) y
    split x y vx vy =
        let ny = R.neg_value y vy in
        sym (R.add_assoc x _ y vx ny vy ∙ ap (ring.add x) (R.add_comm _ y ny vy ∙ R.add_neg y vy) ∙ R.add_zero x vx)

    -- the value of the restricted function at one term
    restricted_at : (t u : Set) (g : Set → K) → Fn S g
        → at_wedge ring (restricted ring p g) t u ≡ whole (p (join t u)) t g u
    restricted_at t u g gv = signed-restricted R (λ f. at_wedge ring f t u) (join t u) p g (wedge-signed R t u) gv

    at_drop : (b : Bool) (t u c : Set) → b ≡ p (join t c) → Up 0 (n S) (join t u)
        → Dep S (join t u) ⊎ (cl S (join t u) ≡ cl S (join t c)) → IsFromIdeal (λ g. rest b t g u)
    at_drop b t u c e h (inl d) =
        let w = from-dependent (λ g. at_wedge ring g t u) (join t u) (wedge-signed R t u) (up_set (n S) _ h) d in
        from-add (λ g. at_wedge ring (restricted ring p g) t u) (λ g. ring.neg (whole b t g u))
        (from-ext _ (λ g. whole (p (join t u)) t g u) (λ g gv. restricted_at t u g gv) (from-cond (p (join t u)) (λ g. at_wedge ring g t u) w))
        (from-neg (λ g. whole b t g u) (from-cond b (λ g. at_wedge ring g t u) w))
    at_drop b t u c e h (inr f) =
        from-ext _ (λ g. ring.zero) (λ g gv.
        ap (λ z. ring.add z (ring.neg (whole b t g u))) (restricted_at t u g gv ∙ ap (λ a. whole a t g u) (same _ _ f ∙ sym e))
        ∙ R.add_neg _ (whole-value b t g gv u)) from-zero

    -- the value at e_T ∧ ∂ e_C
    abbrev by_factor : (Set → K) → Set → Set → K
    by_factor g c t = at_boundary ring (λ u. at_wedge ring g t u) c

    by_factor-value : (g : Set → K) → Fn S g → (c : Set) → Fn S (by_factor g c)
    by_factor-value g gv c t = boundary-value R (λ u. at_wedge ring g t u) c (λ u. wedge-value R g t u gv)

    -- e_T ∧ ∂ e_C itself
    basis_term : (t c : Set) → IsSetWithin (n S) t → IsSetWithin (n S) c → Dep S c → IsFromIdeal (λ g. by_factor g c t)
    basis_term t c h k d =
        let e = element-monomial S ring.one t R.one_value h in (
          ideal_term ring (basis_element ring t, c),
          ideal-term S _ c e k d,
          λ g gv. sym (at-term S g gv _ c e k (by_factor g c) (λ s q. refl)
              ∙ w-monomial S _ (by_factor-value g gv c) ring.one t R.one_value
              ∙ R.one_mul _ (by_factor-value g gv c t)),
        )

    pull : (b : Bool) (t c : Set) (g : Set → K) → at_boundary ring (whole b t g) c ≡ cond b (by_factor g c t) ring.zero
    pull true t c g = refl
    pull false t c g = boundary-zero R c

    -- the part of e_T ∧ ∂ e_C
    part_of_basis : (b : Bool) (t c : Set) → b ≡ p (join t c) → IsSetWithin (n S) t → IsSetWithin (n S) c → Dep S c
        → IsFromIdeal (λ g. by_factor (restricted ring p g) c t)
    part_of_basis b t c e h k d =
        let ut = set_up (n S) t h in
        let uc = set_up (n S) c k in
        from-ext _ (λ g. ring.add (at_boundary ring (rest b t g) c) (cond b (by_factor g c t) ring.zero))
        (λ g gv.
        ap (λ (f : Set → K). at_boundary ring f c) (λ i u. split _ _ (wedge-value R _ t u (restricted-value R p g gv)) (whole-value b t g gv u) i)
        ∙ boundary-add R (rest b t g) (whole b t g) c (rest-value b t g gv) (whole-value b t g gv)
        ∙ ap (ring.add (at_boundary ring (rest b t g) c)) (pull b t c g))
        (from-add (λ g. at_boundary ring (rest b t g) c) (λ g. cond b (by_factor g c t) ring.zero)
        (from-boundary (rest b t) c (drops_from _ 0 (n S) c uc (λ i u w. at_drop b t u c e (join-up 0 (n S) t u ut w.up) (relation-terms S t c i u ut uc d w))))
        (from-cond b (λ g. by_factor g c t) (basis_term t c h k d)))

    -- the part of y ∧ ∂ e_C
    part_of_factor : (y : Ext K) (c : Set) → Terms S y → All (λ (t : Set × K). IsSetWithin (n S) t.0) y
        → IsSetWithin (n S) c → Dep S c → IsFromIdeal (λ g. W S (by_factor (restricted ring p g) c) y)
    part_of_factor [] c o s k d = from-zero
    part_of_factor (t ∷ y) c o s k d =
        let Key : Set × K → Type 0 = λ t. IsSetWithin (n S) t.0 in
        let Val : Set × K → Type 0 = λ t. ring.IsValue t.1 in
        from-add _ (λ g. W S (by_factor (restricted ring p g) c) y)
        (from-scale t.1 (λ g. by_factor (restricted ring p g) c t.0) (All-head Val t y o)
        (part_of_basis (p (join t.0 c)) t.0 c refl (All-head Key t y s) k d))
        (part_of_factor y c (All-tail Val t y o) (All-tail Key t y s) k d)

    parts : (ts : List (Ext K × Set)) → Factors S ts → Deps S ts
        → IsFromIdeal (λ g. W S (restricted ring p g) (sum_terms S ts))
    parts [] f d = from-zero
    parts (t ∷ ts) f d =
        let Factor : Ext K × Set → Type 0 = λ t. IsElement ring numbers arr t.0 in
        let DepSet : Ext K × Set → Type 0 = λ t. IsDependentSet ring numbers arr t.1 in
        let e = All-head Factor t ts f in
        let k = All-head DepSet t ts d in
        let r = All-tail Factor t ts f in
        let q = All-tail DepSet t ts d in
        from-ext _ (λ g. ring.add (W S (by_factor (restricted ring p g) t.1) t.0) (W S (restricted ring p g) (sum_terms S ts)))
        (λ g gv.
        let rv = restricted-value R p g gv in
        w-plus S _ rv _ _ (element-term S t.0 t.1 e k.0).0.is_sum (terms-element S ts r q).0.is_sum
        ∙ ap (λ z. ring.add z (W S (restricted ring p g) (sum_terms S ts))) (at-term S _ rv t.0 t.1 e k.0 (by_factor (restricted ring p g) t.1) (λ s h. refl)))
        (from-add (λ g. W S (by_factor (restricted ring p g) t.1) t.0) (λ g. W S (restricted ring p g) (sum_terms S ts))
        (part_of_factor t.0 t.1 (element-okay S t.0 e) e.1 k.0 k.1) (parts ts r q))

    -- The part of an element of the ideal on the sets whose closure passes a test is in the ideal.
    pub ideal-part : (x : Ext K) → In S x → In S (part p x)
    ideal-part x h =
        let w = parts h.terms h.factors h.dependent in
        let s = ideal-summed S x h in
        subst (In S) (sym (by_values S (part p x) w.0 (part-summed p x s) (ideal-summed S w.0 w.1) (λ g gv.
        at-part p g gv x (okay S x s) ∙ ap (W S (restricted ring p g)) h.is_sum ∙ w.2 g gv))) w.1
