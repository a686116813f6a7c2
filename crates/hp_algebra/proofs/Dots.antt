-- Dot products: values, sums and multiples on either side, and products of which few terms count.
use Rattle.std.proofs.Common.{◌≡◌, ◌≢◌, ℕ, zero, suc, ◌+◌, ◌<◌, List, [], ◌∷◌, ◌++◌, map, length, All, Contains, get_or, drop, refl, sym, ap, ◌∙◌, arith}
use Rattle.std.proofs.Math.Seq.{drop-length}
use Rattle.std.proofs.lemmas.List.{drop_more}
use Rattle.std.proofs.lemmas.List.Elements.{All-head, All-tail}
use Rattle.hp_algebra.specs.Ring.{RingOf, IsRing, IsCommutative, dot_of}
use Rattle.hp_algebra.specs.Rows.{IsRow, entry, zero_row, row_plus, row_scale}
use Rattle.hp_lists.proofs.Members.{Contains-here, Contains-later}
use Rattle.hp_algebra.proofs.Rings.{zero_add, add_swap, mul_zero, zero_mul}
use Rattle.hp_algebra.proofs.Rows.{row-tail}

-- one more product in front
pub dot_of-drop : {R : Type 0} (ring : RingOf R) (xs ys : List R) (i : ℕ) (x y : R) → i < length xs → i < length ys
    → x ≡ get_or xs i x → y ≡ get_or ys i y
    → dot_of ring (drop i xs) (drop i ys) ≡ ring.add (ring.mul x y) (dot_of ring (drop (i + 1) xs) (drop (i + 1) ys))
dot_of-drop ring xs ys i x y hx hy ex ey = rw (drop_more xs i x hx, drop_more ys i y hy, ← ex, ← ey) refl

module _ {R : Type 0} (ring : RingOf R) where
  pub dot_of-nil : (xs : List R) → dot_of ring xs [] ≡ ring.zero
  dot_of-nil [] = refl
  dot_of-nil (x ∷ xs) = refl

  -- behind all coordinates there is nothing left
  pub dot_of-end : (xs ys : List R) → ring.zero ≡ dot_of ring xs (drop (length ys) ys)
  dot_of-end xs ys = sym (dot_of-nil xs) ∙ ap (dot_of ring xs) (sym (drop-length ys))

module _ {R : Type 0} {ring : RingOf R} (laws : IsRing ring) where
  pub dot_of_value : (xs ys : List R) → All ring.IsValue xs → All ring.IsValue ys → ring.IsValue (dot_of ring xs ys)
  dot_of_value [] ys p q = laws.zero_value
  dot_of_value (x ∷ xs) [] p q = laws.zero_value
  dot_of_value (x ∷ xs) (y ∷ ys) p q = laws.add_value _ _ (laws.mul_value _ _ (All-head ring.IsValue x xs p) (All-head ring.IsValue y ys q)) (dot_of_value xs ys (All-tail ring.IsValue x xs p) (All-tail ring.IsValue y ys q))

  pub dot_of-push : (xs ys : List R) (x y : R) → length xs ≡ length ys → All ring.IsValue xs → All ring.IsValue ys
      → ring.IsValue x → ring.IsValue y
      → dot_of ring (xs ++ x ∷ []) (ys ++ y ∷ []) ≡ ring.add (dot_of ring xs ys) (ring.mul x y)
  dot_of-push [] [] x y e p q vx vy = laws.add_comm _ _ (laws.mul_value _ _ vx vy) laws.zero_value
  dot_of-push [] (b ∷ ys) x y e p q vx vy = absurd (omega (arith, e))
  dot_of-push (a ∷ xs) [] x y e p q vx vy = absurd (omega (arith, e))
  dot_of-push (a ∷ xs) (b ∷ ys) x y e p q vx vy =
      let pa = All-head ring.IsValue a xs p in
      let pt = All-tail ring.IsValue a xs p in
      let qb = All-head ring.IsValue b ys q in
      let qt = All-tail ring.IsValue b ys q in
      ap (λ s. ring.add (ring.mul a b) s) (dot_of-push xs ys x y (omega (arith, e)) pt qt vx vy)
      ∙ sym (laws.add_assoc _ _ _ (laws.mul_value _ _ pa qb) (dot_of_value xs ys pt qt) (laws.mul_value _ _ vx vy))

  -- ---- sums and multiples on the left

  pub dot-plus : (width : ℕ) (a b x : List R) → IsRow ring width a → IsRow ring width b → IsRow ring width x
      → dot_of ring (row_plus ring a b) x ≡ ring.add (dot_of ring a x) (dot_of ring b x)
  dot-plus width [] b x ra rb rx = from_nothing b rb.0
    where
      from_nothing : (b : List R) → length b ≡ width → ring.zero ≡ ring.add ring.zero (dot_of ring b x)
      from_nothing [] e = sym (laws.add_zero _ laws.zero_value)
      from_nothing (y ∷ b) e = absurd (omega (arith, e, ra.0))
  dot-plus width (u ∷ a) [] x ra rb rx = absurd (omega (arith, ra.0, rb.0))
  dot-plus width (u ∷ a) (y ∷ b) [] ra rb rx = absurd (omega (arith, ra.0, rx.0))
  dot-plus zero (u ∷ a) (y ∷ b) (z ∷ x) ra rb rx = absurd (omega (arith, ra.0))
  dot-plus (suc width) (u ∷ a) (y ∷ b) (z ∷ x) ra rb rx =
      let vu = All-head ring.IsValue u a ra.1 in
      let vy = All-head ring.IsValue y b rb.1 in
      let vz = All-head ring.IsValue z x rx.1 in
      let ta = row-tail laws width u a ra in
      let tb = row-tail laws width y b rb in
      let tx = row-tail laws width z x rx in
      let p = laws.add_mul u y z vu vy vz in
      let q = dot-plus width a b x ta tb tx in
      let uz = laws.mul_value u z vu vz in
      let yz = laws.mul_value y z vy vz in
      let da = dot_of_value a x ta.1 tx.1 in
      let db = dot_of_value b x tb.1 tx.1 in
      (λ i. ring.add (p i) (q i))
      ∙ laws.add_assoc _ _ _ uz yz (laws.add_value _ _ da db)
      ∙ ap (ring.add (ring.mul u z)) (sym (laws.add_assoc _ _ _ yz da db) ∙ ap (λ s. ring.add s (dot_of ring b x)) (laws.add_comm _ _ yz da) ∙ laws.add_assoc _ _ _ da yz db)
      ∙ sym (laws.add_assoc _ _ _ uz da (laws.add_value _ _ yz db))

  pub dot-scale : (c : R) (a x : List R) → ring.IsValue c → All ring.IsValue a → All ring.IsValue x
      → dot_of ring (row_scale ring c a) x ≡ ring.mul c (dot_of ring a x)
  dot-scale c [] x v p q = sym (mul_zero laws c v)
  dot-scale c (u ∷ a) [] v p q = sym (mul_zero laws c v)
  dot-scale c (u ∷ a) (z ∷ x) v p q =
      let vu = All-head ring.IsValue u a p in
      let vz = All-head ring.IsValue z x q in
      let pt = All-tail ring.IsValue u a p in
      let qt = All-tail ring.IsValue z x q in
      let e = laws.mul_assoc c u z v vu vz in
      let f = dot-scale c a x v pt qt in
      (λ i. ring.add (e i) (f i)) ∙ sym (laws.mul_add c _ _ v (laws.mul_value u z vu vz) (dot_of_value a x pt qt))

  pub dot-zeros : (width : ℕ) (x : List R) → All ring.IsValue x → dot_of ring (zero_row ring width) x ≡ ring.zero
  dot-zeros zero x p = refl
  dot-zeros (suc width) [] p = refl
  dot-zeros (suc width) (z ∷ x) p =
      let e = zero_mul laws z (All-head ring.IsValue z x p) in
      let f = dot-zeros width x (All-tail ring.IsValue z x p) in
      (λ i. ring.add (e i) (f i)) ∙ laws.add_zero _ laws.zero_value

  -- ---- sums and multiples on the right

  pub dot-plus_right : (a x v : List R) → All ring.IsValue a → All ring.IsValue x → All ring.IsValue v
      → length x ≡ length v → dot_of ring a (row_plus ring x v) ≡ ring.add (dot_of ring a x) (dot_of ring a v)
  dot-plus_right [] x v h k m e = sym (laws.add_zero ring.zero laws.zero_value)
  dot-plus_right (c ∷ a) [] [] h k m e = sym (laws.add_zero ring.zero laws.zero_value)
  dot-plus_right (c ∷ a) [] (z ∷ v) h k m e = absurd (omega (arith, e))
  dot-plus_right (c ∷ a) (y ∷ x) [] h k m e = absurd (omega (arith, e))
  dot-plus_right (c ∷ a) (y ∷ x) (z ∷ v) h k m e =
      let vc = All-head ring.IsValue c a h in
      let vy = All-head ring.IsValue y x k in
      let vz = All-head ring.IsValue z v m in
      let va = All-tail ring.IsValue c a h in
      let vx = All-tail ring.IsValue y x k in
      let vv = All-tail ring.IsValue z v m in
      let cy = laws.mul_value c y vc vy in
      let cz = laws.mul_value c z vc vz in
      let dx = dot_of_value a x va vx in
      let dv = dot_of_value a v va vv in
      (λ i. ring.add (laws.mul_add c y z vc vy vz i) (dot-plus_right a x v va vx vv (omega (arith, e)) i))
      ∙ laws.add_assoc _ _ _ cy cz (laws.add_value _ _ dx dv)
      ∙ ap (ring.add (ring.mul c y)) (add_swap laws _ _ _ cz dx dv)
      ∙ sym (laws.add_assoc _ _ _ cy dx (laws.add_value _ _ cz dv))

  pub dot-scale_right : IsCommutative ring → (c : R) (a x : List R) → ring.IsValue c → All ring.IsValue a
      → All ring.IsValue x → dot_of ring a (row_scale ring c x) ≡ ring.mul c (dot_of ring a x)
  dot-scale_right commutes c [] x vc h k = sym (mul_zero laws c vc)
  dot-scale_right commutes c (d ∷ a) [] vc h k = sym (mul_zero laws c vc)
  dot-scale_right commutes c (d ∷ a) (y ∷ x) vc h k =
      let vd = All-head ring.IsValue d a h in
      let vy = All-head ring.IsValue y x k in
      let va = All-tail ring.IsValue d a h in
      let vx = All-tail ring.IsValue y x k in
      let first = sym (laws.mul_assoc d c y vd vc vy) ∙ ap (λ u. ring.mul u y) (commutes d c vd vc) ∙ laws.mul_assoc c d y vc vd vy in
      let rest = dot-scale_right commutes c a x vc va vx in
      (λ i. ring.add (first i) (rest i))
      ∙ sym (laws.mul_add c _ _ vc (laws.mul_value d y vd vy) (dot_of_value a x va vx))

  pub dot-comm : IsCommutative ring → (a x : List R) → All ring.IsValue a → All ring.IsValue x
      → dot_of ring a x ≡ dot_of ring x a
  dot-comm comm [] [] p q = refl
  dot-comm comm [] (y ∷ x) p q = refl
  dot-comm comm (u ∷ a) [] p q = refl
  dot-comm comm (u ∷ a) (y ∷ x) p q =
      let e = comm u y (All-head ring.IsValue u a p) (All-head ring.IsValue y x q) in
      let f = dot-comm comm a x (All-tail ring.IsValue u a p) (All-tail ring.IsValue y x q) in
      λ i. ring.add (e i) (f i)

  -- ---- few terms

  -- the product of the entries at j is zero
  abbrev pub Vanishes : List R → List R → ℕ → Type 0
  Vanishes a x j = ring.mul (entry ring a j) (entry ring x j) ≡ ring.zero

  pub dot-none : (width : ℕ) (a x : List R) → IsRow ring width a → IsRow ring width x
      → ((j : ℕ) → j < width → Vanishes a x j) → dot_of ring a x ≡ ring.zero
  dot-none width [] x ra rx h = refl
  dot-none width (u ∷ a) [] ra rx h = refl
  dot-none zero (u ∷ a) (y ∷ x) ra rx h = absurd (omega (arith, ra.0))
  dot-none (suc width) (u ∷ a) (y ∷ x) ra rx h =
      let e = h 0 (omega arith) in
      let f = dot-none width a x (row-tail laws width u a ra) (row-tail laws width y x rx) (λ j l. h (suc j) (omega arith)) in
      (λ i. ring.add (e i) (f i)) ∙ laws.add_zero _ laws.zero_value

  pub dot-single : (width : ℕ) (a x : List R) (k : ℕ) → IsRow ring width a → IsRow ring width x → k < width
      → ((j : ℕ) → j < width → j ≢ k → Vanishes a x j)
      → dot_of ring a x ≡ ring.mul (entry ring a k) (entry ring x k)
  dot-single zero a x k ra rx l h = absurd (omega arith)
  dot-single (suc width) [] x k ra rx l h = absurd (omega (arith, ra.0))
  dot-single (suc width) (u ∷ a) [] k ra rx l h = absurd (omega (arith, rx.0))
  dot-single (suc width) (u ∷ a) (y ∷ x) zero ra rx l h =
      let f = dot-none width a x (row-tail laws width u a ra) (row-tail laws width y x rx) (λ j m. h (suc j) (omega arith) (λ e. absurd (omega (arith, e)))) in
      ap (ring.add (ring.mul u y)) f ∙ laws.add_zero _ (laws.mul_value u y (All-head ring.IsValue u a ra.1) (All-head ring.IsValue y x rx.1))
  dot-single (suc width) (u ∷ a) (y ∷ x) (suc k) ra rx l h =
      let ta = row-tail laws width u a ra in
      let tx = row-tail laws width y x rx in
      let e = h 0 (omega arith) (λ e. absurd (omega (arith, e))) in
      let f = dot-single width a x k ta tx (omega arith) (λ j m ne. h (suc j) (omega arith) (λ e. ne (omega (arith, e)))) in
      ap (λ s. ring.add s (dot_of ring a x)) e ∙ zero_add laws _ (dot_of_value a x ta.1 tx.1) ∙ f

  pub dot-pair : (width : ℕ) (a x : List R) (k l : ℕ) → IsRow ring width a → IsRow ring width x → k < width → l < width
      → k ≢ l → ((j : ℕ) → j < width → j ≢ k → j ≢ l → Vanishes a x j)
      → dot_of ring a x
      ≡ ring.add (ring.mul (entry ring a k) (entry ring x k)) (ring.mul (entry ring a l) (entry ring x l))
  dot-pair zero a x k l ra rx lk ll ne h = absurd (omega arith)
  dot-pair (suc width) [] x k l ra rx lk ll ne h = absurd (omega (arith, ra.0))
  dot-pair (suc width) (u ∷ a) [] k l ra rx lk ll ne h = absurd (omega (arith, rx.0))
  dot-pair (suc width) (u ∷ a) (y ∷ x) zero zero ra rx lk ll ne h = absurd (ne refl)
  dot-pair (suc width) (u ∷ a) (y ∷ x) zero (suc l) ra rx lk ll ne h =
      ap (ring.add (ring.mul u y)) (dot-single width a x l (row-tail laws width u a ra) (row-tail laws width y x rx) (omega arith) (λ j m other. h (suc j) (omega arith) (λ e. absurd (omega (arith, e))) (λ e. other (omega (arith, e)))))
  dot-pair (suc width) (u ∷ a) (y ∷ x) (suc k) zero ra rx lk ll ne h =
      let ta = row-tail laws width u a ra in
      let tx = row-tail laws width y x rx in
      laws.add_comm _ _ (laws.mul_value u y (All-head ring.IsValue u a ra.1) (All-head ring.IsValue y x rx.1)) (dot_of_value a x ta.1 tx.1)
      ∙ ap (λ s. ring.add s (ring.mul u y)) (dot-single width a x k ta tx (omega arith) (λ j m other. h (suc j) (omega arith) (λ e. other (omega (arith, e))) (λ e. absurd (omega (arith, e)))))
  dot-pair (suc width) (u ∷ a) (y ∷ x) (suc k) (suc l) ra rx lk ll ne h =
      let ta = row-tail laws width u a ra in
      let tx = row-tail laws width y x rx in
      let e = h 0 (omega arith) (λ e. absurd (omega (arith, e))) (λ e. absurd (omega (arith, e))) in
      let f = dot-pair width a x k l ta tx (omega arith) (omega arith) (λ e. ne (ap (λ n. suc n) e)) (λ j m p q. h (suc j) (omega arith) (λ e. p (omega (arith, e))) (λ e. q (omega (arith, e)))) in
      ap (λ s. ring.add s (dot_of ring a x)) e ∙ zero_add laws _ (dot_of_value a x ta.1 tx.1) ∙ f

  -- a map that is zero at each member
  pub map-zeros : {X : Type 0} (f : X → R) (xs : List X) → ((x : X) → Contains xs x → f x ≡ ring.zero)
      → map f xs ≡ zero_row ring (length xs)
  map-zeros f [] h = refl
  map-zeros f (x ∷ xs) h =
      let e = h x (Contains-here x xs) in
      let r = map-zeros f xs (λ y c. h y (Contains-later x xs y c)) in
      λ i. e i ∷ r i
