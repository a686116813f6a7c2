-- The difference of two rows, place by place, and the test whether two rows are the same.
use Rattle.std.specs.Prelude.{◌≡◌, ◌≢◌, ◌↔◌, ℕ, zero, suc, ◌+◌, ◌<◌, ◌≤◌, min, ◌&&◌, true, false, List, [], ◌∷◌, ◌++◌, length, All}
use Rattle.std.proofs.Common.{get_or, take, drop, refl, sym, ap, ◌∙◌, arith}
use Rattle.std.proofs.lemmas.Bool.{and_parts, and_from}
use Rattle.std.proofs.lemmas.List.{take_more, drop_more, drop_all, map_more, length-take, length-map}
use Rattle.std.proofs.lemmas.List.Elements.{All-head, All-tail, All-nil, All-cons}
use Rattle.hp_algebra.specs.Ring.{RingOf, IsRing}
use Rattle.hp_algebra.specs.Rows.{IsRow, row_scale, row_minus, same_row}
use Rattle.hp_algebra.proofs.Rings.{same_from_difference}

module _ {R : Type 0} (ring : RingOf R) where
  -- ---- differences

  minus-push : (b a : List R) (y x : R) → length b ≡ length a
      → row_minus ring (b ++ y ∷ []) (a ++ x ∷ []) ≡ row_minus ring b a ++ ring.add y (ring.neg x) ∷ []
  minus-push [] [] y x e = refl
  minus-push [] (u ∷ a) y x e = absurd (omega (arith, e))
  minus-push (v ∷ b) [] y x e = absurd (omega (arith, e))
  minus-push (v ∷ b) (u ∷ a) y x e = ap (λ r. ring.add v (ring.neg u) ∷ r) (minus-push b a y x (omega (arith, e)))

  -- one place more of b - c a
  pub minus-more : (c : R) (b a : List R) (k : ℕ) (d : R) → k < length b → length b ≡ length a
      → row_minus ring (take (k + 1) b) (row_scale ring c (take (k + 1) a))
      ≡ row_minus ring (take k b) (row_scale ring c (take k a)) ++ ring.add (get_or b k d) (ring.neg (ring.mul c (get_or a k d))) ∷ []
  minus-more c b a k d within e =
      let in_a : k < length a = omega (arith, within, e) in
      let long_b = length-take k b in
      let long_a = length-take k a in
      let long : length (take k b) ≡ length (row_scale ring c (take k a)) =
      long_b ∙ ap (λ n. min k n) e ∙ sym long_a ∙ sym (length-map (take k a) (ring.mul c)) in
      ap (λ r. row_minus ring r (row_scale ring c (take (k + 1) a))) (take_more b k d within)
      ∙ ap (λ r. row_minus ring (take k b ++ get_or b k d ∷ []) r) (map_more (ring.mul c) a k d in_a)
      ∙ minus-push (take k b) (row_scale ring c (take k a)) (get_or b k d) (ring.mul c (get_or a k d)) long

  pub length-minus : (b a : List R) → length b ≡ length a → length (row_minus ring b a) ≡ length b
  length-minus [] [] e = refl
  length-minus [] (u ∷ a) e = absurd (omega (arith, e))
  length-minus (v ∷ b) [] e = absurd (omega (arith, e))
  length-minus (v ∷ b) (u ∷ a) e = ap suc (length-minus b a (omega (arith, e)))

  -- b - c a has the width of b
  pub length-minus_multiple : (c : R) (b a : List R) → length b ≡ length a
      → length (row_minus ring b (row_scale ring c a)) ≡ length b
  length-minus_multiple c b a e = length-minus b (row_scale ring c a) (e ∙ sym (length-map a (ring.mul c)))

  pub get_or-minus : (b a : List R) (k : ℕ) (d : R) → length b ≡ length a → k < length b
      → get_or (row_minus ring b a) k d ≡ ring.add (get_or b k d) (ring.neg (get_or a k d))
  get_or-minus [] a k d e h = absurd (omega (arith, h))
  get_or-minus (v ∷ b) [] k d e h = absurd (omega (arith, e))
  get_or-minus (v ∷ b) (u ∷ a) zero d e h = refl
  get_or-minus (v ∷ b) (u ∷ a) (suc k) d e h = get_or-minus b a k d (omega (arith, e)) (omega (arith, h))

  -- ---- the same row

  -- rows of unequal lengths are not the same
  pub same_row-widths : (a b : List R) → length a ≢ length b → same_row ring a b ≡ false
  same_row-widths [] [] apart = absurd (apart refl)
  same_row-widths [] (y ∷ b) apart = refl
  same_row-widths (x ∷ a) [] apart = refl
  same_row-widths (x ∷ a) (y ∷ b) apart = both (same_row-widths a b (λ e. apart (omega (arith, e))))
    where
      never : (c : _) → (c && false) ≡ false
      never true = refl
      never false = refl

      both : same_row ring a b ≡ false → same_row ring (x ∷ a) (y ∷ b) ≡ false
      both e = ap (λ t. ring.is_zero (ring.add x (ring.neg y)) && t) e ∙ never _

  -- behind the ends there is nothing left to compare
  pub same_row-end : (a b : List R) (k : ℕ) → length a ≡ length b → length a ≤ k
      → same_row ring (drop k a) (drop k b) ≡ true
  same_row-end a b k e past =
      ap (same_row ring (drop k a)) (drop_all k b (omega (arith, e, past))) ∙ ap (λ d. same_row ring d []) (drop_all k a past)

  -- one place more
  pub same_row-drop : (a b : List R) (k : ℕ) (d e : R) → k < length a → k < length b
      → same_row ring (drop k a) (drop k b)
      ≡ (ring.is_zero (ring.add (get_or a k d) (ring.neg (get_or b k e))) && same_row ring (drop (k + 1) a) (drop (k + 1) b))
  same_row-drop a b k d e ha hb = λ i. same_row ring (drop_more a k d ha i) (drop_more b k e hb i)

module _ {R : Type 0} {ring : RingOf R} (laws : IsRing ring) where
  pub minus-values : (b a : List R) → All ring.IsValue b → All ring.IsValue a → All ring.IsValue (row_minus ring b a)
  minus-values [] a vb va = All-nil ring.IsValue
  minus-values (v ∷ b) [] vb va = All-nil ring.IsValue
  minus-values (v ∷ b) (u ∷ a) vb va =
      All-cons ring.IsValue _ _
      (laws.add_value _ _ (All-head ring.IsValue v b vb) (laws.neg_value _ (All-head ring.IsValue u a va)))
      (minus-values b a (All-tail ring.IsValue v b vb) (All-tail ring.IsValue u a va))

  pub minus-row : (width : ℕ) (b a : List R) → IsRow ring width b → IsRow ring width a
      → IsRow ring width (row_minus ring b a)
  minus-row width b a rb ra = (length-minus ring b a (rb.0 ∙ sym ra.0) ∙ rb.0, minus-values b a rb.1 ra.1)

  pub same_row-self : (a : List R) → All ring.IsValue a → same_row ring a a ≡ true
  same_row-self [] v = refl
  same_row-self (x ∷ a) v =
      let vx = All-head ring.IsValue x a v in
      and_from _ _ ((laws.zero_test _ (laws.add_value _ _ vx (laws.neg_value x vx))).1 (laws.add_neg x vx))
      (same_row-self a (All-tail ring.IsValue x a v))

  pub from_same_row : (a b : List R) → All ring.IsValue a → All ring.IsValue b → same_row ring a b ≡ true → a ≡ b
  from_same_row [] [] v w t = refl
  from_same_row [] (y ∷ b) v w t = absurd (cc t)
  from_same_row (x ∷ a) [] v w t = absurd (cc t)
  from_same_row (x ∷ a) (y ∷ b) v w t =
      let vx = All-head ring.IsValue x a v in
      let wy = All-head ring.IsValue y b w in
      let parts = and_parts (ring.is_zero (ring.add x (ring.neg y))) (same_row ring a b) t in
      let head : x ≡ y = same_from_difference laws x y vx wy ((laws.zero_test _ (laws.add_value _ _ vx (laws.neg_value y wy))).0 parts.0) in
      let tail : a ≡ b = from_same_row a b (All-tail ring.IsValue x a v) (All-tail ring.IsValue y b w) parts.1 in
      λ i. head i ∷ tail i

  -- the test is exact
  pub same_row-exact : (a b : List R) → All ring.IsValue a → All ring.IsValue b → (same_row ring a b ≡ true) ↔ (a ≡ b)
  same_row-exact a b v w = ((λ t. from_same_row a b v w t), λ e. ap (same_row ring a) (sym e) ∙ same_row-self a v)
