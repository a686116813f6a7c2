-- The kept rows of a list that is not zero are not empty.
use Rattle.std.specs.Prelude.{◌≡◌, ℕ, List, [], ◌∷◌, ◌++◌, length, All, slice_index_or}
use Rattle.std.proofs.lemmas.List.Elements.{All-nil, All-cons, All-head, All-tail, All-append}
use mathlib.Core.Logic.{inl, inr}
use mathlib.Core.Path.{sym, ap, ◌∙◌}
use native.Mathlib.Omega.{arith}
use Rattle.hp_algebra.specs.Ring.{RingOf, IsRing, IsCommutative}
use Rattle.hp_algebra.proofs.Rings.{mul_zero}
use Rattle.hp_algebra.proofs.Rows.{zeros-row}
use Rattle.hp_poly.specs.Polynomials.{Poly, poly_ring}
use Rattle.hp_poly.specs.PolyRing.{poly_is_ring}
use Rattle.hp_module.specs.Vectors.{Vector, IsVector, IsGenerated, IsKept, IsKeptAfter, zero_vector}
use Rattle.hp_minres.specs.Grids.{cell}
use Rattle.hp_minres.proofs.RangeSums.{sum_zero, sum_same}
use Rattle.hp_minres.proofs.GridRows.{at_replicate, list_ext}
use Rattle.hp_minres.proofs.RowSpans.{generated_spanned}

module _ {F : Type 0} {ring : RingOf F} (laws : IsRing ring) (comm : IsCommutative ring) (width : ℕ) where
  abbrev PR : RingOf (Poly F)
  PR = poly_ring ring

  abbrev P : IsRing (poly_ring ring)
  P = poly_is_ring laws comm

  abbrev Z : Vector F → Type 0
  Z v = v ≡ zero_vector ring width

  abbrev V : Vector F → Type 0
  V v = IsVector ring width v

  -- zero vectors generate zero alone
  zeros_generate : (vs : List (Vector F)) → All V vs → All Z vs → (v : Vector F) → V v → IsGenerated ring width vs v → Z v
  zeros_generate vs hv z v iv g =
      let s = generated_spanned laws comm width vs v hv g in
      list_ext P v (zero_vector ring width) (iv.0 ∙ sym (zeros-row P width).0)
      (λ j. (λ k. s.2 k j)
      ∙ sum_same P (length vs) (λ i. PR.mul (s.0 i) (cell PR vs i j)) (λ i. [])
      (λ i l. ap (λ (x : Vector F). PR.mul (s.0 i) (slice_index_or x j [])) (z i [] l)
      ∙ ap (PR.mul (s.0 i)) (λ k. at_replicate P width k j) ∙ mul_zero P (s.0 i) (s.1.value i))
      ∙ sum_zero P (length vs) ∙ sym (λ k. at_replicate P width k j))

  none_kept : (before vs : List (Vector F)) → IsKeptAfter ring width before vs [] → All V before → All V vs → All Z before → All Z vs
  none_kept before [] k hb hv z = All-nil Z
  none_kept before (v ∷ vs) (inl p) hb hv z =
      let h = All-head V v vs hv in
      let e = zeros_generate before hb z v h p.0 in
      All-cons Z v vs e
      (none_kept (before ++ v ∷ []) vs p.1 (All-append V before (v ∷ []) hb (All-cons V v [] h (All-nil V))) (All-tail V v vs hv)
      (All-append Z before (v ∷ []) z (All-cons Z v [] e (All-nil Z))))
  none_kept before (v ∷ vs) (inr p) hb hv z = absurd (let e = ap length p.1.1 in omega (arith, e))

  -- Where nothing is kept every vector is zero.
  pub kept_nothing : (vs : List (Vector F)) → IsKept ring width vs [] → All (IsVector ring width) vs → All (λ v. v ≡ zero_vector ring width) vs
  kept_nothing vs k hv = none_kept [] vs k (All-nil V) hv (All-nil Z)
