-- The constants of polynomials that a loop lists are those of the vector that they make.
use Rattle.std.specs.Prelude.{◌≡◌, ℕ, ◌+◌, ◌-◌, ◌<◌, ◌≤◌, List, [], map, length, slice_index_or}
use Rattle.std.proofs.lemmas.List.{get_or-map, length-map, ext_get_or}
use Rattle.std.proofs.lemmas.List.FromFn.{get_or-map-range_with_len, length-map-range_with_len}
use mathlib.Core.Path.{sym, ap, ◌∙◌}
use native.Mathlib.Omega.{arith}
use Rattle.hp_algebra.specs.Ring.{RingOf, IsRing, IsCommutative}
use Rattle.hp_lists.specs.Lists.{range_with_len}
use Rattle.hp_mono.specs.Monomials.{one}
use Rattle.hp_sums.proofs.Collected.{sum-total}
use Rattle.hp_poly.specs.Polynomials.{coefficient_of}
use Rattle.hp_poly.specs.PolySetting.{poly_setting}
use Rattle.hp_module.specs.Vectors.{Vector, IsVector}
use Rattle.hp_module.specs.FreeModules.{coefficient_at}
use Rattle.hp_module.proofs.VectorCoefficients.{coefficient-entry}
use Rattle.hp_graded.specs.RelationConstants.{constant_row, falling, unit}

module _ {F : Type 0} {ring : RingOf F} (laws : IsRing ring) (commutes : IsCommutative ring) where
  -- the coefficient of the symbol of entry j
  constant-at : (qs : Vector F) (j : ℕ) → IsVector ring (length qs) qs → j < length qs
      → coefficient_at ring qs (unit j) ≡ coefficient_of ring (slice_index_or qs j []) one
  constant-at qs j h l =
      let e : j + 1 ≡ 1 + j = omega arith in
      ap (λ c. coefficient_at ring qs (record { mono = one; comp = c })) e
      ∙ coefficient-entry laws commutes 1 j qs one h.1 l ∙ sum-total (poly_setting laws commutes) (slice_index_or qs j []) one (h.1 j [] l).is_sum

  pub constants-are : (qs : Vector F) (start stop many : ℕ) {row : List F} → IsVector ring (length qs) qs → start ≤ stop → stop ≤ length qs
      → row ≡ map (λ c. coefficient_of ring (slice_index_or qs (stop - (c + 1)) []) one) (range_with_len 0 many) → many ≡ stop - start
      → row ≡ constant_row ring (falling start stop) qs
  constants-are qs start stop many {row} h low high e m =
      let f : ℕ → F = λ c. coefficient_of ring (slice_index_or qs (stop - (c + 1)) []) one in
      let g : ℕ → F = λ j. coefficient_at ring qs (unit j) in
      let cols = falling start stop in
      let long = length-map-range_with_len (λ c. stop - (c + 1)) 0 (stop - start) in
      let wide = length-map cols g in
      e ∙ ap (λ k. map f (range_with_len 0 k)) m
      ∙ ext_get_or ring.zero (map f (range_with_len 0 (stop - start))) (map g cols)
      (length-map-range_with_len f 0 (stop - start) ∙ sym (wide ∙ long))
      (λ c l.
      let lc : c < stop - start = omega (arith, l, length-map-range_with_len f 0 (stop - start)) in
      get_or-map-range_with_len f 0 (stop - start) c c ring.zero lc (omega arith)
      ∙ sym (get_or-map g cols c 0 ring.zero (omega (arith, lc, long))
      ∙ ap g (get_or-map-range_with_len (λ c. stop - (c + 1)) 0 (stop - start) c c 0 lc (omega arith))
      ∙ constant-at qs (stop - (c + 1)) h (omega (arith, lc, high, low))))
