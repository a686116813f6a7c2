-- A function on sets as a functional on elements of the exterior algebra: its values at products and at boundaries.
use Rattle.std.specs.Prelude.{◌≡◌, [], ◌∷◌, length, remove}
use Rattle.std.proofs.lemmas.List.Elements.{All-nil, All-cons, All-map}
use mathlib.Core.Path.{sym, ◌∙◌}
use Rattle.hp_lists.specs.Lists.{below}
use Rattle.hp_algebra.specs.Ring.{RingOf, IsRing, IsCommutative}
use Rattle.hp_sets.specs.Sets.{Set, cmp_listed}
use Rattle.hp_sums.specs.FiniteSums.{IsSum, HasValues}
use Rattle.hp_sums.proofs.SumSetting.{SumSetting}
use Rattle.hp_sums.proofs.WeightedSums.{
  delta,
  delta-value,
  delta_ext,
  weighted,
  weighted-add,
  weighted-collect,
  weighted-value,
  weighted-none,
  weighted_ext,
}
use Rattle.hp_sums.proofs.BilinearSums.{linear-IsSum, weighted-bilinear, weighted-linear}
use Rattle.hp_exterior.specs.Exterior.{Ext, sign, wedge_of_sets, wedge, boundary_of_set, boundary, monomial}
use Rattle.hp_exterior.specs.ExteriorSetting.{ext_setting}
use Rattle.hp_exterior.specs.ExteriorRing.{sign-value, wedge-values}
use Rattle.hp_exterior.proofs.Negations.{neg_from_zero}
use Rattle.hp_exterior.proofs.Functionals.{Values, at_boundary}
use Rattle.hp_exterior.proofs.WedgeFunctionals.{at-boundary}

module _ {F : Type 0} {ring : RingOf F} (laws : IsRing ring) (commutes : IsCommutative ring) where
  abbrev S : SumSetting Set F
  S = ext_setting laws commutes

  -- elements at which all functionals agree are equal
  pub ext_by_at : (x y : Ext F) → IsSum cmp_listed ring x → IsSum cmp_listed ring y
      → ((g : Set → F) → Values ring g → weighted ring g x ≡ weighted ring g y) → x ≡ y
  ext_by_at x y p q e = delta_ext S x y p q (λ b. e (delta S b) (delta-value S b))

  pub at-value : (g : Set → F) → Values ring g → (x : Ext F) → HasValues ring x → ring.IsValue (weighted ring g x)
  at-value g gv x h = weighted-value S g gv x h

  -- the functional of the negative function
  pub at-minus : (g : Set → F) → Values ring g → (x : Ext F) → HasValues ring x
      → weighted ring (λ s. ring.neg (g s)) x ≡ ring.neg (weighted ring g x)
  at-minus g gv x h =
      let nv : Values ring (λ s. ring.neg (g s)) = λ s. laws.neg_value _ (gv s) in
      neg_from_zero laws _ _ (at-value g gv x h) (at-value (λ s. ring.neg (g s)) nv x h)
      (sym (weighted-add S g (λ s. ring.neg (g s)) gv nv x h) ∙ weighted-none S _ x h (λ i d l. laws.add_neg _ (gv _)))

  -- c e_S
  pub at-monomial : (g : Set → F) → Values ring g → (c : F) (s : Set) → ring.IsValue c
      → weighted ring g (monomial ring c s) ≡ ring.mul c (g s)
  at-monomial g gv c s v =
      let Val : Set × F → Type 0 = λ t. ring.IsValue t.1 in
      weighted-collect S g gv ((s, c) ∷ []) (All-cons Val (s, c) [] v (All-nil Val))
      ∙ laws.add_zero _ (laws.mul_value c (g s) v (gv s))

  -- ---- the boundary of an element

  pub boundary-values : (s : Set) → HasValues ring (boundary_of_set ring s)
  boundary-values s =
      All-map (λ (u : Set × F). ring.IsValue u.1) (λ j. (remove s j, sign ring j)) (below (length s)) (λ i d l. sign-value laws commutes _)

  pub boundary-IsSum : (x : Ext F) → HasValues ring x → IsSum cmp_listed ring (boundary ring x)
  boundary-IsSum x h = linear-IsSum S (boundary_of_set ring) boundary-values x h

  pub at-boundary_of : (g : Set → F) → Values ring g → (x : Ext F) → HasValues ring x
      → weighted ring g (boundary ring x) ≡ weighted ring (at_boundary ring g) x
  at-boundary_of g gv x h =
      weighted-linear S (boundary_of_set ring) boundary-values g gv x h
      ∙ weighted_ext S _ (at_boundary ring g) x (λ i d l. at-boundary laws commutes g gv _)

  -- ---- the product of two elements

  -- the value of g at e_S ∧ e_T, and at e_S ∧ y
  abbrev pub at_product : (Set → F) → Set → Set → F
  at_product g s t = weighted ring g (wedge_of_sets ring s t)

  pub product-value : (g : Set → F) → Values ring g → (s t : Set) → ring.IsValue (at_product g s t)
  product-value g gv s t = at-value g gv (wedge_of_sets ring s t) (wedge-values laws commutes s t)

  pub second-value : (g : Set → F) → Values ring g → (y : Ext F) → HasValues ring y
      → (s : Set) → ring.IsValue (weighted ring (at_product g s) y)
  second-value g gv y h s = at-value (at_product g s) (product-value g gv s) y h

  pub at-wedge_of : (g : Set → F) → Values ring g → (x y : Ext F) → HasValues ring x → HasValues ring y
      → weighted ring g (wedge ring x y) ≡ weighted ring (λ s. weighted ring (at_product g s) y) x
  at-wedge_of g gv x y h k = weighted-bilinear S (wedge_of_sets ring) (wedge-values laws commutes) g gv x y h k
