-- Elements of the exterior algebra of an arrangement, and the values of functionals at their sums and products.
use Rattle.std.specs.Prelude.{◌≡◌, [], ◌∷◌, ◌++◌, All}
use Rattle.std.proofs.lemmas.List.Elements.{All-nil, All-cons}
use mathlib.Core.Path.{sym, ap, ◌∙◌}
use Rattle.hp_sets.specs.Sets.{Set, IsSetWithin, cmp_listed}
use Rattle.hp_sets.proofs.SetLaws.{empty-set}
use Rattle.hp_sums.specs.FiniteSums.{collect}
use Rattle.hp_sums.proofs.Collected.{collect-IsSum, collect-keys, nothing-IsSum, sum-values}
use Rattle.hp_sums.proofs.SumLaws.{negative-IsSum, negative-keys, plus-IsSum, plus-keys}
use Rattle.hp_sums.proofs.WeightedSums.{weighted-append, weighted-collect, weighted-plus, weighted_ext}
use Rattle.hp_sums.proofs.BilinearSums.{bilinear-IsSum, weighted-negative}
use Rattle.hp_algebra.proofs.Rings.{add_swap}
use Rattle.hp_arr.proofs.Setting.{Setting, n}
use Rattle.hp_exterior.specs.Exterior.{Ext, boundary, ext_neg, ext_plus, monomial, wedge, wedge_of_sets}
use Rattle.hp_exterior.specs.ExteriorRing.{wedge-values}
use Rattle.hp_exterior.proofs.WedgeFunctionals.{at-wedge}
use Rattle.hp_exterior.proofs.ElementFunctionals.{at-monomial, at-value, at-wedge_of, boundary-IsSum, ext_by_at, second-value}
use Rattle.hp_exterior.proofs.DegreeLaws.{within-boundary, within-wedge}
use Rattle.hp_os.specs.OrlikSolomon.{ext_minus, multiple}
use Rattle.hp_os.proofs.IdealSetting.{Element, Fn, Summed, Terms, W, commutes, laws, sums, wide}

module _ {K : Type 0} (S : Setting K) where
  open S use {ring, arr}

  abbrev Val : Set × K → Type 0
  Val t = S.ring.IsValue t.1

  -- ---- sums over sets

  pub okay : (x : Ext K) → Summed S x → Terms S x
  okay x h = sum-values (sums S) x h

  pub summed-nothing : Summed S []
  summed-nothing = nothing-IsSum (sums S)

  pub summed-collect : (x : Ext K) → Terms S x → Summed S (collect cmp_listed S.ring x)
  summed-collect x h = collect-IsSum (sums S) x h

  pub summed-monomial : (c : K) (s : Set) → ring.IsValue c → Summed S (monomial S.ring c s)
  summed-monomial c s v = summed-collect ((s, c) ∷ []) (All-cons Val (s, c) [] v (All-nil Val))

  pub summed-plus : (x y : Ext K) → Summed S x → Summed S y → Summed S (ext_plus S.ring x y)
  summed-plus x y h k = plus-IsSum (sums S) x y h k

  pub summed-neg : (x : Ext K) → Summed S x → Summed S (ext_neg S.ring x)
  summed-neg x h = negative-IsSum (sums S) x h

  pub summed-minus : (x y : Ext K) → Summed S x → Summed S y → Summed S (ext_minus S.ring x y)
  summed-minus x y h k = summed-plus x _ h (summed-neg y k)

  pub summed-wedge : (x y : Ext K) → Summed S x → Summed S y → Summed S (wedge S.ring x y)
  summed-wedge x y h k = bilinear-IsSum (sums S) (wedge_of_sets ring) (wedge-values (laws S) (commutes S)) x y (okay x h) (okay y k)

  pub summed-boundary : (x : Ext K) → Summed S x → Summed S (boundary S.ring x)
  summed-boundary x h = boundary-IsSum (laws S) (commutes S) x (okay x h)

  -- ---- elements

  pub element-summed : (x : Ext K) → Element S x → Summed S x
  element-summed x h = h.0.is_sum

  pub element-okay : (x : Ext K) → Element S x → Terms S x
  element-okay x h = okay x h.0.is_sum

  -- a sum over sets within 1 to n is an element
  pub make-element : (x : Ext K) → Summed S x → All (λ t. IsSetWithin (n S) t.0) x → Element S x
  make-element x h k = (record { is_sum = h; sets = λ i d l. wide S _ (k i d l) }, k)

  pub element-nothing : Element S []
  element-nothing = make-element [] summed-nothing (All-nil (λ (t : Set × K). IsSetWithin (n S) t.0))

  pub element-monomial : (c : K) (s : Set) → ring.IsValue c → IsSetWithin (n S) s → Element S (monomial S.ring c s)
  element-monomial c s v h =
      let P : Set × K → Type 0 = λ t. IsSetWithin (n S) t.0 in
      make-element _ (summed-monomial c s v) (collect-keys (sums S) (IsSetWithin (n S)) ((s, c) ∷ []) (All-cons P (s, c) [] h (All-nil P)))

  pub element-plus : (x y : Ext K) → Element S x → Element S y → Element S (ext_plus S.ring x y)
  element-plus x y h k = make-element _ (summed-plus x y h.0.is_sum k.0.is_sum) (plus-keys (sums S) (IsSetWithin (n S)) x y h.1 k.1)

  pub element-neg : (x : Ext K) → Element S x → Element S (ext_neg S.ring x)
  element-neg x h = make-element _ (summed-neg x h.0.is_sum) (negative-keys (sums S) (IsSetWithin (n S)) x h.1)

  pub element-minus : (x y : Ext K) → Element S x → Element S y → Element S (ext_minus S.ring x y)
  element-minus x y h k = element-plus x _ h (element-neg y k)

  pub element-wedge : (x y : Ext K) → Element S x → Element S y → Element S (wedge S.ring x y)
  element-wedge x y h k = within-wedge (laws S) (commutes S) (n S) x y h k

  pub element-boundary : (x : Ext K) → Element S x → Element S (boundary S.ring x)
  element-boundary x h = within-boundary (laws S) (commutes S) (n S) x h

  pub element-multiple : (c : K) (x : Ext K) → ring.IsValue c → Element S x → Element S (multiple S.ring c x)
  element-multiple c x v h = element-wedge _ x (element-monomial c [] v (empty-set (n S))) h

  -- ---- values

  pub w-value : (g : Set → K) → Fn S g → (x : Ext K) → Terms S x → ring.IsValue (W S g x)
  w-value g gv x h = at-value (laws S) (commutes S) g gv x h

  pub w-append : (g : Set → K) → Fn S g → (x y : Ext K) → Terms S x → Terms S y → W S g (x ++ y)
      ≡ ring.add (W S g x) (W S g y)
  w-append g gv x y h k = weighted-append (sums S) g gv x y h k

  pub w-collect : (g : Set → K) → Fn S g → (x : Ext K) → Terms S x → W S g (collect cmp_listed S.ring x) ≡ W S g x
  w-collect g gv x h = weighted-collect (sums S) g gv x h

  pub w-monomial : (g : Set → K) → Fn S g → (c : K) (s : Set) → ring.IsValue c → W S g (monomial S.ring c s)
      ≡ ring.mul c (g s)
  w-monomial g gv c s v = at-monomial (laws S) (commutes S) g gv c s v

  pub w-plus : (g : Set → K) → Fn S g → (x y : Ext K) → Summed S x → Summed S y → W S g (ext_plus S.ring x y)
      ≡ ring.add (W S g x) (W S g y)
  w-plus g gv x y h k = weighted-plus (sums S) g gv x y h k

  pub w-neg : (g : Set → K) → Fn S g → (x : Ext K) → Summed S x → W S g (ext_neg S.ring x) ≡ ring.neg (W S g x)
  w-neg g gv x h = weighted-negative (sums S) g gv x h

  pub w-minus : (g : Set → K) → Fn S g → (x y : Ext K) → Summed S x → Summed S y → W S g (ext_minus S.ring x y)
      ≡ ring.add (W S g x) (ring.neg (W S g y))
  w-minus g gv x y h k = w-plus g gv x _ h (summed-neg y k) ∙ ap (ring.add (W S g x)) (w-neg g gv y k)

  pub w-multiple : (g : Set → K) → Fn S g → (c : K) (x : Ext K) → ring.IsValue c → Element S x
      → W S g (multiple S.ring c x) ≡ ring.mul c (W S g x)
  w-multiple g gv c x v h =
      let o = element-okay x h in
      at-wedge_of (laws S) (commutes S) g gv (monomial ring c []) x (okay _ (summed-monomial c [] v)) o
      ∙ w-monomial _ (second-value (laws S) (commutes S) g gv x o) c [] v
      ∙ ap (ring.mul c) (weighted_ext (sums S) _ g x (λ i d l. at-wedge (laws S) (commutes S) g gv [] _ (empty-set 64) (h.0.sets i d l)))

  -- an element is another and the difference of the two
  pub w-rest : (g : Set → K) → Fn S g → (x y : Ext K) → Summed S x → Summed S y → W S g x
      ≡ ring.add (W S g y) (W S g (ext_minus S.ring x y))
  w-rest g gv x y h k =
      let a = w-value g gv x (okay x h) in
      let b = w-value g gv y (okay y k) in
      let nb = (laws S).neg_value _ b in
      sym (ap (ring.add (W S g y)) (w-minus g gv x y h k) ∙ add_swap (laws S) _ _ _ b a nb
      ∙ ap (ring.add (W S g x)) ((laws S).add_neg _ b)
      ∙ (laws S).add_zero _ a)

  -- sums with the same values are equal
  pub by_values : (x y : Ext K) → Summed S x → Summed S y → ((g : Set → K) → Fn S g → W S g x ≡ W S g y) → x ≡ y
  by_values x y h k e = ext_by_at (laws S) (commutes S) x y h k e
