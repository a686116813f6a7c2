-- Degrees and sets of products and boundaries; products by their second factor; elements of degree one square to zero.
use Rattle.std.specs.Prelude.{◌≡◌, ℕ, zero, suc, ◌+◌, ◌<◌, Bool, true, false, cond, [], ◌∷◌, ◌++◌, length, remove, All}
use Rattle.std.proofs.lemmas.List.Elements.{All-nil, All-cons, All-map, All-weaker}
use mathlib.Core.Path.{refl, sym, ap, ◌∙◌, subst}
use native.Mathlib.Omega.{arith}
use Rattle.hp_algebra.specs.Ring.{RingOf, IsRing, IsCommutative}
use Rattle.hp_lists.specs.Lists.{below}
use Rattle.hp_lists.proofs.Members.{each-All}
use Rattle.hp_lists.proofs.Ranges.{below_members}
use Rattle.hp_sets.specs.Sets.{Set, IsSetWithin, union}
use Rattle.hp_sets.proofs.SetMembers.{union-set}
use Rattle.hp_sums.specs.FiniteSums.{HasValues}
use Rattle.hp_sums.proofs.SumSetting.{SumSetting}
use Rattle.hp_sums.proofs.Collected.{collect-IsSum, sum-values}
use Rattle.hp_sums.proofs.WeightedSums.{weighted, weighted-collect, weighted_ext, weighted_swap}
use Rattle.hp_sums.proofs.BilinearSums.{bilinear-keys, linear-keys}
use Rattle.hp_exterior.specs.Exterior.{Ext, IsExt, IsExtWithin, IsOfDegree, boundary, boundary_of_set, ext_of, inversions, meets, monomial, sign, wedge, wedge_of_sets}
use Rattle.hp_exterior.specs.ExteriorSetting.{ext_setting}
use Rattle.hp_exterior.specs.ExteriorRing.{wedge-IsExt, wedge-values}
use Rattle.hp_exterior.specs.SetSums.{length-union}
use Rattle.hp_exterior.proofs.BoundaryLaws.{boundary-IsExt}
use Rattle.hp_exterior.proofs.BoundarySteps.{remove-set}
use Rattle.hp_exterior.proofs.Functionals.{Values}
use Rattle.hp_exterior.proofs.ElementFunctionals.{at-monomial, at-value, at-wedge_of, at_product, boundary-values, product-value}

module _ {F : Type 0} {ring : RingOf F} (laws : IsRing ring) (commutes : IsCommutative ring) where
  abbrev S : SumSetting Set F
  S = ext_setting laws commutes

  abbrev W : (Set → F) → Ext F → F
  W g x = weighted ring g x

  abbrev Val : Set × F → Type 0
  Val t = ring.IsValue t.1

  -- ---- the sets of a product

  -- A property of all unions of disjoint sets with properties P and Q passes to the product.
  module _ (P Q R : Set → Type 0) (h : (s t : Set) → P s → Q t → meets s t ≡ false → R (union s t)) where
    product_keys : (s t : Set) → P s → Q t → All (λ (u : Set × F). R u.0) (wedge_of_sets ring s t)
    product_keys s t p q = pick (meets s t) refl
      where
        pick : (b : Bool) → meets s t ≡ b
            → All (λ (u : Set × F). R u.0) (cond b [] ((union s t, sign ring (inversions (s ++ t))) ∷ []))
        pick true e = All-nil (λ (u : Set × F). R u.0)
        pick false e = All-cons (λ (u : Set × F). R u.0) (union s t, sign ring (inversions (s ++ t))) [] (h s t p q e) (All-nil (λ (u : Set × F). R u.0))

    pub wedge-keys_by : (x y : Ext F) → All (λ t. P t.0) x → All (λ t. Q t.0) y → All (λ t. R t.0) (wedge ring x y)
    wedge-keys_by x y p q =
        bilinear-keys S (wedge_of_sets ring) (wedge-values laws commutes) R x y
        (All-weaker (λ (t : Set × F). P t.0) (λ t. All (λ u. All (λ v. R v.0) (wedge_of_sets ring t.0 u.0)) y) (λ t a.
        All-weaker (λ (u : Set × F). Q u.0) (λ u. All (λ v. R v.0) (wedge_of_sets ring t.0 u.0)) (λ u b. product_keys t.0 u.0 a b) y q) x p)

  -- the product of elements of degrees j and k has degree j + k
  pub degree-wedge : (j k : ℕ) (x y : Ext F) → IsExt ring x → IsExt ring y → IsOfDegree ring j x → IsOfDegree ring k y
      → IsOfDegree ring (j + k) (wedge ring x y)
  degree-wedge j k x y hx hy dx dy =
      wedge-keys_by (λ s. IsSetWithin 64 s × (length s ≡ j)) (λ s. IsSetWithin 64 s × (length s ≡ k)) (λ s. length s ≡ j + k)
      (λ s t p q m. length-union s t p.0 q.0 m ∙ (λ i. p.1 i + q.1 i)) x y (λ i d l. (hx.sets i d l, dx i d l)) (λ i d l. (hy.sets i d l, dy i d l))

  -- the product of elements with sets within 1 to n has such sets
  pub within-wedge : (n : ℕ) (x y : Ext F) → IsExtWithin ring n x → IsExtWithin ring n y
      → IsExtWithin ring n (wedge ring x y)
  within-wedge n x y hx hy = (
    wedge-IsExt laws commutes x y hx.0 hy.0,
    wedge-keys_by (IsSetWithin n) (IsSetWithin n) (IsSetWithin n) (λ s t p q m. union-set n s t p q) x y hx.1 hy.1,
  )

  -- ---- the sets of a boundary

  -- the boundary takes one degree away
  pub degree-boundary : (k : ℕ) (x : Ext F) → IsOfDegree ring (suc k) x → IsOfDegree ring k (boundary ring x)
  degree-boundary k x d =
      linear-keys S (boundary_of_set ring) (boundary-values laws commutes) (λ s. length s ≡ k) x
      (All-weaker (λ (t : Set × F). length t.0 ≡ suc k) (λ t. All (λ u. length u.0 ≡ k) (boundary_of_set ring t.0)) (λ t e. each t.0 e) x d)
    where
      shorter : (n : ℕ) (s : Set) (j : ℕ) → length s ≡ suc n → j < length s → length (remove s j) ≡ n
      shorter n [] j e l = absurd (omega (arith, l))
      shorter n (x ∷ s) zero e l = omega (arith, e)
      shorter zero (x ∷ s) (suc j) e l = absurd (omega (arith, e, l))
      shorter (suc n) (x ∷ s) (suc j) e l = ap suc (shorter n s j (omega (arith, e)) (omega (arith, l)))

      each : (s : Set) → length s ≡ suc k → All (λ (u : Set × F). length u.0 ≡ k) (boundary_of_set ring s)
      each s e =
          All-map (λ (u : Set × F). length u.0 ≡ k) (λ j. (remove s j, sign ring j)) (below (length s))
          (each-All (λ j. length (remove s j) ≡ k) (below (length s)) (λ j c. shorter k s j e (below_members j (length s) c)))

  pub within-boundary : (n : ℕ) (x : Ext F) → IsExtWithin ring n x → IsExtWithin ring n (boundary ring x)
  within-boundary n x h = (
    boundary-IsExt laws commutes x h.0,
    linear-keys S (boundary_of_set ring) (boundary-values laws commutes) (IsSetWithin n) x
        (All-weaker (λ (t : Set × F). IsSetWithin n t.0) (λ t. All (λ u. IsSetWithin n u.0) (boundary_of_set ring t.0)) (λ t k.
        All-map (λ (u : Set × F). IsSetWithin n u.0) (λ j. (remove t.0 j, sign ring j)) (below (length t.0)) (λ i d l. remove-set n t.0 _ k)) x h.1),
  )

  -- ---- products by their second factor

  -- the value of g at w ∧ e_S, as a function of S
  abbrev pub at_second : (Set → F) → Ext F → Set → F
  at_second g w s = W g (wedge ring w (monomial ring ring.one s))

  one_term : (s : Set) → HasValues ring ((s, ring.one) ∷ [])
  one_term s = All-cons Val (s, ring.one) [] laws.one_value (All-nil Val)

  second-sum : (g : Set → F) → Values ring g → (w : Ext F) → HasValues ring w → (s : Set)
      → at_second g w s ≡ W (λ u. at_product laws commutes g u s) w
  second-sum g gv w h s =
      at-wedge_of laws commutes g gv w _ h (sum-values S _ (collect-IsSum S ((s, ring.one) ∷ []) (one_term s)))
      ∙ weighted_ext S _ (λ u. at_product laws commutes g u s) w (λ i d l.
      at-monomial laws commutes _ (product-value laws commutes g gv _) ring.one s laws.one_value ∙ laws.one_mul _ (product-value laws commutes g gv _ s))

  pub second_fun : (g : Set → F) → Values ring g → (w : Ext F) → HasValues ring w → Values ring (at_second g w)
  second_fun g gv w h s =
      subst ring.IsValue (sym (second-sum g gv w h s)) (at-value laws commutes _ (λ u. product-value laws commutes g gv u s) w h)

  -- a product is linear in its second factor
  pub at-second : (g : Set → F) → Values ring g → (w ts : Ext F) → HasValues ring w → HasValues ring ts
      → W g (wedge ring w (ext_of ring ts)) ≡ W (at_second g w) ts
  at-second g gv w ts h o =
      at-wedge_of laws commutes g gv w _ h (sum-values S _ (collect-IsSum S ts o))
      ∙ weighted_ext S _ (λ s. W (at_product laws commutes g s) ts) w (λ i d l. weighted-collect S _ (product-value laws commutes g gv _) ts o)
      ∙ weighted_swap S (at_product laws commutes g) (product-value laws commutes g gv) w ts h o
      ∙ weighted_ext S _ (at_second g w) ts (λ i d l. sym (second-sum g gv w h _))
