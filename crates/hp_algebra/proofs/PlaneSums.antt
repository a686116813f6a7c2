-- Sums of multiples of two rows, and cross products of values.
use Rattle.std.proofs.Common.{◌≡◌, ◌≢◌, ℕ, List, [], ◌∷◌, map, Contains, refl, sym, ap, ◌∙◌}
use Rattle.hp_algebra.specs.Ring.{RingOf, IsRing, dot_of}
use Rattle.hp_algebra.proofs.Dots.{dot-plus, dot-scale, dot-comm}
use Rattle.hp_algebra.proofs.Finite.{Finite}
use Rattle.hp_lists.proofs.Members.{Contains-here, Contains-later}
use Rattle.hp_algebra.proofs.Rings.{zero_add, mul_zero, zero_mul}
use Rattle.hp_algebra.specs.Rows.{IsRow, row_plus, row_scale}
use Rattle.hp_algebra.proofs.Rows.{plus-row, scale-row}

module _ {K : Type 0} (F : Finite K) where
  open F use {ring, inverse, field}

  L : IsRing ring
  L = F.field.is_ring

  -- s a + t b
  abbrev pub plane : K → List K → K → List K → List K
  plane s a t b = row_plus F.ring (row_scale F.ring s a) (row_scale F.ring t b)

  module _ (l : ℕ) (s t : K) (vs : ring.IsValue s) (vt : ring.IsValue t)
      (a b : List K) (ra : IsRow ring l a) (rb : IsRow ring l b) where
    pub plane-row : IsRow ring l (plane s a t b)
    plane-row = plus-row L l _ _ (scale-row L l s a vs ra) (scale-row L l t b vt rb)

    -- its product with a row, and that of a row with it
    pub plane-dot : (x : List K) → IsRow ring l x
        → dot_of ring (plane s a t b) x ≡ ring.add (ring.mul s (dot_of ring a x)) (ring.mul t (dot_of ring b x))
    plane-dot x rx =
        let p = dot-scale L s a x vs ra.1 rx.1 in
        let q = dot-scale L t b x vt rb.1 rx.1 in
        dot-plus L l _ _ x (scale-row L l s a vs ra) (scale-row L l t b vt rb) rx ∙ (λ i. ring.add (p i) (q i))

    pub dot-plane : (x : List K) → IsRow ring l x
        → dot_of ring x (plane s a t b) ≡ ring.add (ring.mul s (dot_of ring x a)) (ring.mul t (dot_of ring x b))
    dot-plane x rx =
        let p = dot-comm L field.commutes a x ra.1 rx.1 in
        let q = dot-comm L field.commutes b x rb.1 rx.1 in
        dot-comm L field.commutes x _ rx.1 plane-row.1 ∙ plane-dot x rx ∙ (λ i. ring.add (ring.mul s (p i)) (ring.mul t (q i)))

  module _ (s y z x : K) (vs : ring.IsValue s) (vy : ring.IsValue y) (vz : ring.IsValue z) (vx : ring.IsValue x) where
    gone : ring.add (ring.mul z x) (ring.mul (ring.neg z) x) ≡ ring.zero
    gone = sym (L.add_mul z (ring.neg z) x vz (L.neg_value z vz) vx) ∙ ap (λ c. ring.mul c x) (L.add_neg z vz) ∙ zero_mul L x vx

    -- s y = z x exactly where s y - z x = 0
    pub cross-zero : ring.mul s y ≡ ring.mul z x → ring.add (ring.mul s y) (ring.mul (ring.neg z) x) ≡ ring.zero
    cross-zero e = ap (λ c. ring.add c (ring.mul (ring.neg z) x)) e ∙ gone

    pub zero-cross : ring.add (ring.mul s y) (ring.mul (ring.neg z) x) ≡ ring.zero → ring.mul s y ≡ ring.mul z x
    zero-cross e =
        let sy = L.mul_value s y vs vy in
        let zx = L.mul_value z x vz vx in
        let nzx = L.mul_value (ring.neg z) x (L.neg_value z vz) vx in
        sym (L.add_zero _ sy) ∙ ap (ring.add (ring.mul s y)) (sym gone ∙ L.add_comm _ _ zx nzx)
        ∙ sym (L.add_assoc _ _ _ sy nzx zx) ∙ ap (λ c. ring.add c (ring.mul z x)) e ∙ zero_add L _ zx

  -- s y + t 0 is zero only where s or y is
  pub zero-left : (s y t x : K) → ring.IsValue s → ring.IsValue y → ring.IsValue t → s ≢ ring.zero
      → x ≡ ring.zero → ring.add (ring.mul s y) (ring.mul t x) ≡ ring.zero → y ≡ ring.zero
  zero-left s y t x vs vy vt off ex e =
      let u = inverse s in
      let vu = field.inverse_value s vs off in
      let sy = L.mul_value s y vs vy in
      let none : ring.mul s y ≡ ring.zero = sym (L.add_zero _ sy) ∙ ap (ring.add (ring.mul s y)) (sym (mul_zero L t vt) ∙ ap (ring.mul t) (sym ex)) ∙ e in
      sym (L.one_mul y vy) ∙ ap (λ c. ring.mul c y) (sym (field.commutes u s vu vs ∙ field.mul_inverse s vs off)) ∙ L.mul_assoc u s y vu vs vy ∙ ap (ring.mul u) none ∙ mul_zero L u vu

-- sums of multiples of two lists made by functions
pub plane-map : {K : Type 0} (ring : RingOf K) (s t : K) (f g h : ℕ → K) (xs : List ℕ)
    → ((j : ℕ) → Contains xs j → ring.add (ring.mul s (f j)) (ring.mul t (g j)) ≡ h j)
    → row_plus ring (row_scale ring s (map f xs)) (row_scale ring t (map g xs)) ≡ map h xs
plane-map ring s t f g h [] e = refl
plane-map ring s t f g h (x ∷ xs) e =
    let p = e x (Contains-here x xs) in
    let q = plane-map ring s t f g h xs (λ j c. e j (Contains-later x xs j c)) in
    λ i. p i ∷ q i
