-- The boundary of a boundary is zero, and the boundary is a derivation.
use Rattle.std.specs.Prelude.{◌≡◌, ℕ, zero, suc, [], ◌∷◌, length, remove, All}
use Rattle.std.proofs.lemmas.List.Elements.{All-head, All-tail, All-map, All-weaker}
use mathlib.Core.Path.{refl, sym, ap, ◌∙◌}
use Rattle.hp_lists.specs.Lists.{below}
use Rattle.hp_algebra.specs.Ring.{RingOf, IsRing, IsCommutative}
use Rattle.hp_algebra.proofs.Rings.{mul_zero}
use Rattle.hp_sets.specs.Sets.{Set, IsSetWithin, cmp_listed}
use Rattle.hp_sums.specs.FiniteSums.{IsSum, HasValues}
use Rattle.hp_sums.proofs.SumSetting.{SumSetting}
use Rattle.hp_sums.proofs.SumLaws.{negative-IsSum, plus-IsSum}
use Rattle.hp_sums.proofs.Collected.{nothing-IsSum}
use Rattle.hp_sums.proofs.WeightedSums.{weighted, weighted-add, weighted-none, weighted-plus, weighted_ext}
use Rattle.hp_sums.proofs.BilinearSums.{linear-keys, linear-plus, weighted-negative}
use Rattle.hp_exterior.specs.Exterior.{Ext, HasProductRule, IsExt, IsOfDegree, boundary, boundary_of_set, ext_plus, ext_signed, sign, wedge}
use Rattle.hp_exterior.specs.ExteriorSetting.{ext_setting}
use Rattle.hp_exterior.specs.ExteriorRing.{ext-values, wedge-IsExt}
use Rattle.hp_exterior.proofs.BoundarySteps.{remove-set}
use Rattle.hp_exterior.proofs.Negations.{both_sides, mul_neg}
use Rattle.hp_exterior.proofs.Inserted.{set_up, up_set}
use Rattle.hp_exterior.proofs.Functionals.{
  Values,
  at_boundary,
  at_wedge,
  boundary-add,
  boundary-ext,
  boundary-twice,
  boundary-value,
  boundary-zero,
  derivation,
  drops_all,
  flip,
}
use Rattle.hp_exterior.proofs.WedgeFunctionals.{at-wedge}
use Rattle.hp_exterior.proofs.ElementFunctionals.{
  at-boundary_of,
  at-minus,
  at-value,
  at-wedge_of,
  at_product,
  boundary-IsSum,
  boundary-values,
  ext_by_at,
  product-value,
  second-value,
}

module _ {F : Type 0} {ring : RingOf F} (laws : IsRing ring) (commutes : IsCommutative ring) where
  abbrev S : SumSetting Set F
  S = ext_setting laws commutes

  abbrev W : (Set → F) → Ext F → F
  W g x = weighted ring g x

  abbrev Val : Set × F → Type 0
  Val t = ring.IsValue t.1

  -- ---- the boundary of an element is an element

  pub boundary-IsExt : (x : Ext F) → IsExt ring x → IsExt ring (boundary ring x)
  boundary-IsExt x h = record {
    is_sum = boundary-IsSum laws commutes x (ext-values laws commutes x h);
    sets = linear-keys S (boundary_of_set ring) (boundary-values laws commutes) (IsSetWithin 64) x
        (All-weaker (λ (t : Set × F). IsSetWithin 64 t.0) (λ t. All (λ u. IsSetWithin 64 u.0) (boundary_of_set ring t.0)) (λ t k. sets t.0 k) x h.sets);
  }
    where
      sets : (s : Set) → IsSetWithin 64 s → All (λ (u : Set × F). IsSetWithin 64 u.0) (boundary_of_set ring s)
      sets s k = All-map (λ (u : Set × F). IsSetWithin 64 u.0) (λ j. (remove s j, sign ring j)) (below (length s)) (λ i d l. remove-set 64 s _ k)

  pub boundary-plus : (x y : Ext F) → IsExt ring x → IsExt ring y
      → boundary ring (ext_plus ring x y) ≡ ext_plus ring (boundary ring x) (boundary ring y)
  boundary-plus x y f g = linear-plus S (boundary_of_set ring) (boundary-values laws commutes) x y f.is_sum g.is_sum

  fun : (g : Set → F) → Values ring g → Values ring (at_boundary ring g)
  fun g gv s = boundary-value laws g s gv

  -- the boundary of a boundary is zero
  pub boundary_boundary : (x : Ext F) → IsExt ring x → boundary ring (boundary ring x) ≡ []
  boundary_boundary x h =
      let b = boundary-IsExt x h in
      let bb = boundary-IsExt _ b in
      let vx = ext-values laws commutes x h in
      ext_by_at laws commutes _ [] bb.is_sum (nothing-IsSum S) (λ g gv.
      at-boundary_of laws commutes g gv _ (ext-values laws commutes _ b)
      ∙ at-boundary_of laws commutes (at_boundary ring g) (fun g gv) x vx
      ∙ weighted-none S _ x vx (λ i d l. boundary-twice laws g _ gv))

  -- ---- functionals

  -- (-1)^k y
  abbrev pub signed : ℕ → F → F
  signed zero y = y
  signed (suc k) y = ring.neg (signed k y)

  signed-value : (k : ℕ) (y : F) → ring.IsValue y → ring.IsValue (signed k y)
  signed-value zero y v = v
  signed-value (suc k) y v = laws.neg_value _ (signed-value k y v)

  flip-signed : (s : Set) (y : F) → flip ring s y ≡ signed (length s) y
  flip-signed [] y = refl
  flip-signed (x ∷ s) y = ap ring.neg (flip-signed s y)

  at-signed : (k : ℕ) (f : Set → F) → Values ring f → (x : Ext F) → HasValues ring x
      → W (λ s. signed k (f s)) x ≡ signed k (W f x)
  at-signed zero f fv x h = refl
  at-signed (suc k) f fv x h =
      at-minus laws commutes (λ s. signed k (f s)) (λ s. signed-value k (f s) (fv s)) x h ∙ ap ring.neg (at-signed k f fv x h)

  boundary-scale : (c : F) (f : Set → F) (s : Set) → ring.IsValue c → Values ring f
      → at_boundary ring (λ u. ring.mul c (f u)) s ≡ ring.mul c (at_boundary ring f s)
  boundary-scale c f [] v fv = sym (mul_zero laws c v)
  boundary-scale c f (x ∷ s) v fv =
      let b = boundary-value laws (λ u. f (x ∷ u)) s (λ u. fv (x ∷ u)) in
      ap (λ z. ring.add (ring.mul c (f s)) (ring.neg z)) (boundary-scale c (λ u. f (x ∷ u)) s v (λ u. fv (x ∷ u)))
      ∙ ap (ring.add (ring.mul c (f s))) (sym (mul_neg laws commutes c _ v b))
      ∙ sym (laws.mul_add c (f s) _ v (fv s) (laws.neg_value _ b))

  -- the boundary in one place and a functional in the other change places
  pub boundary-at : (h : Set → Set → F) → ((w u : Set) → ring.IsValue (h w u)) → (s : Set) (y : Ext F)
      → HasValues ring y
      → at_boundary ring (λ w. W (h w) y) s ≡ W (λ u. at_boundary ring (λ w. h w u) s) y
  boundary-at h hv s [] k = boundary-zero laws s
  boundary-at h hv s (t ∷ y) k =
      let v = All-head Val t y k in
      let r = All-tail Val t y k in
      boundary-add laws (λ w. ring.mul t.1 (h w t.0)) (λ w. W (h w) y) s (λ w. laws.mul_value t.1 _ v (hv w t.0)) (λ w. at-value laws commutes (h w) (hv w) y r)
      ∙ both_sides ring.add _ _ _ _ (boundary-scale t.1 (λ w. h w t.0) s v (λ w. hv w t.0)) (boundary-at h hv s y r)

  -- ---- the product rule

  pub signed-IsSum : (k : ℕ) (z : Ext F) → IsSum cmp_listed ring z → IsSum cmp_listed ring (ext_signed ring k z)
  signed-IsSum zero z h = h
  signed-IsSum (suc k) z h = negative-IsSum S _ (signed-IsSum k z h)

  pub at-ext_signed : (k : ℕ) (g : Set → F) → Values ring g → (z : Ext F) → IsSum cmp_listed ring z
      → W g (ext_signed ring k z) ≡ signed k (W g z)
  at-ext_signed zero g gv z h = refl
  at-ext_signed (suc k) g gv z h =
      weighted-negative S g gv _ (signed-IsSum k z h) ∙ ap ring.neg (at-ext_signed k g gv z h)

  -- at one basis element of the first factor
  rule_at : (k : ℕ) (g : Set → F) → Values ring g → (s : Set) (y : Ext F) → IsSetWithin 64 s → length s ≡ k
      → IsExt ring y
      → W (at_product laws commutes (at_boundary ring g) s) y
      ≡ ring.add (at_boundary ring (λ w. W (at_product laws commutes g w) y) s)
      (signed k (W (at_boundary ring (at_product laws commutes g s)) y))
  rule_at k g gv s y hs e ey =
      let vy = ext-values laws commutes y ey in
      let P : Set → Set → F = λ w u. at_product laws commutes g w u in
      let Pv : (w u : Set) → ring.IsValue (P w u) = λ w u. product-value laws commutes g gv w u in
      let left : Set → F = λ u. at_boundary ring (λ w. P w u) s in
      let lv : Values ring left = λ u. boundary-value laws (λ w. P w u) s (λ w. Pv w u) in
      let right : Set → F = λ u. at_boundary ring (P s) u in
      let rv : Values ring right = fun (P s) (Pv s) in
      weighted_ext S _ (λ u. ring.add (left u) (signed k (right u))) y (λ i d l. here _ (ey.sets i d l))
      ∙ weighted-add S left (λ u. signed k (right u)) lv (λ u. signed-value k _ (rv u)) y vy
      ∙ both_sides ring.add _ _ _ _ (sym (boundary-at P Pv s y vy)) (at-signed k right rv y vy)
    where
      product : (w u : Set) → IsSetWithin 64 w → IsSetWithin 64 u → at_wedge ring g w u ≡ at_product laws commutes g w u
      product w u hw hu = sym (at-wedge laws commutes g gv w u hw hu)

      here : (u : Set) → IsSetWithin 64 u → at_product laws commutes (at_boundary ring g) s u
          ≡ ring.add (at_boundary ring (λ w. at_product laws commutes g w u) s) (signed k (at_boundary ring (at_product laws commutes g s) u))
      here u hu =
          at-wedge laws commutes _ (fun g gv) s u hs hu
          ∙ derivation laws 0 64 g s u gv (set_up 64 s hs) (set_up 64 u hu)
          ∙ both_sides ring.add _ _ _ _
          (boundary-ext laws _ _ s (drops_all (λ w. at_wedge ring g w u ≡ at_product laws commutes g w u) 0 64 s (set_up 64 s hs) (λ w j. product w u (up_set 64 w j) hu)))
          (flip-signed s _ ∙ ap (λ m. signed m (at_boundary ring (λ w. at_wedge ring g s w) u)) e
          ∙ ap (signed k) (boundary-ext laws _ _ u (drops_all (λ w. at_wedge ring g s w ≡ at_product laws commutes g s w) 0 64 u (set_up 64 u hu) (λ w j. product s w hs (up_set 64 w j)))))

  -- The boundary is a derivation: ∂ (x ∧ y) = ∂ x ∧ y + (-1)^k x ∧ ∂ y for x of degree k.
  pub boundary_wedge : (k : ℕ) (x y : Ext F) → IsExt ring x → IsExt ring y → IsOfDegree ring k x
      → boundary ring (wedge ring x y)
      ≡ ext_plus ring (wedge ring (boundary ring x) y) (ext_signed ring k (wedge ring x (boundary ring y)))
  boundary_wedge k x y ex ey deg =
      let vx = ext-values laws commutes x ex in
      let vy = ext-values laws commutes y ey in
      let xy = wedge-IsExt laws commutes x y ex ey in
      let bx = boundary-IsExt x ex in
      let by = boundary-IsExt y ey in
      let a = wedge-IsExt laws commutes _ y bx ey in
      let b = wedge-IsExt laws commutes x _ ex by in
      let c = signed-IsSum k _ b.is_sum in
      ext_by_at laws commutes _ _ (boundary-IsExt _ xy).is_sum (plus-IsSum S _ _ a.is_sum c) (λ g gv.
      let f : Set → F = λ s. W (at_product laws commutes g s) y in
      let fv : Values ring f = second-value laws commutes g gv y vy in
      let h : Set → F = λ s. W (at_boundary ring (at_product laws commutes g s)) y in
      let hv : Values ring h = λ s. at-value laws commutes _ (fun _ (product-value laws commutes g gv s)) y vy in
      at-boundary_of laws commutes g gv _ (ext-values laws commutes _ xy)
      ∙ at-wedge_of laws commutes _ (fun g gv) x y vx vy
      ∙ weighted_ext S _ (λ s. ring.add (at_boundary ring f s) (signed k (h s))) x (λ i d l. rule_at k g gv _ y (ex.sets i d l) (deg i d l) ey)
      ∙ weighted-add S (at_boundary ring f) (λ s. signed k (h s)) (fun f fv) (λ s. signed-value k _ (hv s)) x vx
      ∙ both_sides ring.add _ _ _ _
      (sym (at-wedge_of laws commutes g gv _ y (ext-values laws commutes _ bx) vy ∙ at-boundary_of laws commutes f fv x vx))
      (at-signed k h hv x vx
      ∙ ap (signed k) (sym (at-wedge_of laws commutes g gv x _ vx (ext-values laws commutes _ by)
      ∙ weighted_ext S _ h x (λ i d l. at-boundary_of laws commutes _ (product-value laws commutes g gv _) y vy)))
      ∙ sym (at-ext_signed k g gv _ b.is_sum))
      ∙ sym (weighted-plus S g gv _ _ a.is_sum c))

  -- what the contract of `boundary` cites
  pub boundary_closed : {x y : Ext F} → IsExt ring x → y ≡ boundary ring x → boundary ring y ≡ []
  boundary_closed {x} {y} h e = ap (boundary ring) e ∙ boundary_boundary x h

  pub product_rule : (x : Ext F) → IsExt ring x → HasProductRule ring x
  product_rule x h k y d f = boundary_wedge k x y h f d
