-- On the hyperplane of a, the restricted form of b, also where it is normalised, has the zeros of b.
use Rattle.std.specs.Prelude.{◌≡◌, ◌≢◌, ℕ, ◌<◌, false, List, [], ◌∷◌, length, All, remove, slice_index_or}
use Rattle.std.specs.Cmp.{both_ways}
use Rattle.std.proofs.lemmas.List.Elements.{All-head, All-tail}
use mathlib.Core.Path.{refl, sym, ap, ◌∙◌}
use native.Mathlib.Omega.{arith}
use Rattle.hp_algebra.specs.Ring.{dot_of, IsRing}
use Rattle.hp_algebra.proofs.Finite.{Finite}
use Rattle.hp_algebra.proofs.Rings.{mul_zero, zero_mul, zero_add, add_cancel}
use Rattle.hp_algebra.proofs.Dots.{dot_of_value, dot-plus, dot-scale}
use Rattle.hp_algebra.proofs.Rows.{scale-row}
use Rattle.hp_algebra.specs.Rows.{IsRow, is_zero_row, entry, row_scale, row_plus, row_minus}
use Rattle.hp_arr.specs.Operations.{normalised}
use Rattle.hp_arr.proofs.NonzeroPlaces.{first_nonzero, first_entry}
use Rattle.hp_arr.proofs.LawfulDeletion.{All-remove}
use Rattle.hp_arr.proofs.ClearedRows.{IsNonzeroAt, factor, cleared, factor-value, clears, long, cleared-values}
use Rattle.hp_arr.proofs.HyperplanePoints.{dot-remove}

module _ {K : Type 0} (F : Finite K) where
  open F use {ring, inverse, numbers, field, num}

  laws : IsRing ring
  laws = field.is_ring

  negative-is : (x y : K) → ring.IsValue x → ring.IsValue y → ring.add x y ≡ ring.zero → y ≡ ring.neg x
  unfolding laws
  negative-is x y vx vy e = add_cancel laws x y (ring.neg x) vx vy (laws.neg_value x vx) (e ∙ sym (laws.add_neg x vx))

  neg_mul : (u w : K) → ring.IsValue u → ring.IsValue w → ring.mul (ring.neg u) w ≡ ring.neg (ring.mul u w)
  unfolding laws
  neg_mul u w vu vw = negative-is (ring.mul u w) (ring.mul (ring.neg u) w) (laws.mul_value u w vu vw) (laws.mul_value (ring.neg u) w (laws.neg_value u vu) vw)
      (sym (laws.add_mul u (ring.neg u) w vu (laws.neg_value u vu) vw) ∙ ap (λ z. ring.mul z w) (laws.add_neg u vu) ∙ zero_mul laws w vw)

  -- b - t a as a sum
  minus-plus : (t : K) (a b : List K) → ring.IsValue t → All ring.IsValue a → length b ≡ length a
      → row_minus ring b (row_scale ring t a) ≡ row_plus ring b (row_scale ring (ring.neg t) a)
  unfolding laws
  minus-plus t [] [] vt va e = refl
  minus-plus t [] (y ∷ b) vt va e = absurd (omega (arith, e))
  minus-plus t (z ∷ a) [] vt va e = absurd (omega (arith, e))
  minus-plus t (z ∷ a) (y ∷ b) vt va e =
      let first = neg_mul t z vt (All-head ring.IsValue z a va) in
      let rest = minus-plus t a b vt (All-tail ring.IsValue z a va) (omega (arith, e)) in
      λ i. ring.add y (sym first i) ∷ rest i

  -- b - t a at a point of the hyperplane a = 0
  dot-minus : (t : K) (a b x : List K) → ring.IsValue t → IsRow ring (length x) a → IsRow ring (length x) b → All ring.IsValue x
      → dot_of ring a x ≡ ring.zero → dot_of ring (row_minus ring b (row_scale ring t a)) x ≡ dot_of ring b x
  unfolding laws
  dot-minus t a b x vt ra rb vx z =
      let vn = laws.neg_value t vt in
      ap (λ r. dot_of ring r x) (minus-plus t a b vt ra.1 (rb.0 ∙ sym ra.0))
      ∙ dot-plus laws (length x) b (row_scale ring (ring.neg t) a) x rb (scale-row laws (length x) (ring.neg t) a vn ra) (refl, vx)
      ∙ ap (ring.add (dot_of ring b x)) (dot-scale laws (ring.neg t) a x vn ra.1 vx ∙ ap (ring.mul (ring.neg t)) z ∙ mul_zero laws (ring.neg t) vn)
      ∙ laws.add_zero (dot_of ring b x) (dot_of_value laws b x rb.1 vx)

  -- at a point of the hyperplane a = 0 the form b - t a without place k has the value of b
  pub cut-value : (a b x : List K) (k : ℕ) → All ring.IsValue a → All ring.IsValue b → All ring.IsValue x → length b ≡ length a → length a ≡ length x → IsNonzeroAt ring a k
      → dot_of ring a x ≡ ring.zero → dot_of ring (remove (cleared field a b k) k) (remove x k) ≡ dot_of ring b x
  unfolding laws
  cut-value a b x k va vb vx e g at z =
      let c = cleared field a b k in
      let t = factor field a b k in
      let vt = factor-value field a b k va vb e at in
      let vc = cleared-values field a b k va vb e at in
      let wide = long field a b k va vb e at ∙ e in
      let rest = dot_of ring (remove c k) (remove x k) in
      let in_a : k < length a = at.within in
      let in_c : k < length c = omega (arith, wide, in_a) in
      let in_x : k < length x = omega (arith, g, in_a) in
      sym (zero_add laws rest (dot_of_value laws _ _ (All-remove ring.IsValue c k in_c vc) (All-remove ring.IsValue x k in_x vx)))
      ∙ ap (λ y. ring.add y rest) (sym (ap (λ y. ring.mul y (entry ring x k)) (clears field a b k va vb e at) ∙ zero_mul laws (entry ring x k) (vx k ring.zero in_x)))
      ∙ sym (dot-remove F k c x vc vx (wide ∙ g) in_c)
      ∙ dot-minus t a b x vt (g, va) (e ∙ g, vb) vx z

  pub inverse-zero : (e d : K) → ring.IsValue e → e ≢ ring.zero → ring.IsValue d → ring.is_zero (ring.mul (inverse e) d) ≡ ring.is_zero d
  unfolding laws
  inverse-zero e d ve ne vd =
      let vi = field.inverse_value e ve ne in
      let vid = laws.mul_value (inverse e) d vi vd in
      both_ways (ring.is_zero (ring.mul (inverse e) d)) (ring.is_zero d)
      (λ h. (laws.zero_test d vd).1 (sym (laws.one_mul d vd) ∙ ap (λ z. ring.mul z d) (sym (field.mul_inverse e ve ne)) ∙ laws.mul_assoc e (inverse e) d ve vi vd
      ∙ ap (ring.mul e) ((laws.zero_test _ vid).0 h) ∙ mul_zero laws e ve))
      (λ h. (laws.zero_test _ vid).1 (ap (ring.mul (inverse e)) ((laws.zero_test d vd).0 h) ∙ mul_zero laws (inverse e) vi))

  -- a form that is not zero has its zeros also when it is normalised
  pub normalised-zeros : (r x : List K) → All ring.IsValue r → is_zero_row ring r ≡ false → All ring.IsValue x
      → ring.is_zero (dot_of ring (normalised ring inverse r) x) ≡ ring.is_zero (dot_of ring r x)
  unfolding laws
  normalised-zeros r x vr h vx =
      let at = first_nonzero laws r vr h in
      let e = slice_index_or r at.0 ring.zero in
      let ve = vr at.0 ring.zero at.1.within in
      ap (λ c. ring.is_zero (dot_of ring (row_scale ring (inverse c) r) x)) (first_entry laws r vr at.0 at.1)
      ∙ ap ring.is_zero (dot-scale laws (inverse e) r x (field.inverse_value e ve at.1.nonzero) vr vx)
      ∙ inverse-zero e (dot_of ring r x) ve at.1.nonzero (dot_of_value laws r x vr vx)
