-- Negatives, the numbers other than one, and sums over the numbers below n in a ring.
use Rattle.std.specs.Prelude.{◌≡◌, ◌⊎◌, ℕ, zero, suc, ◌<◌, ◌≤◌}
use mathlib.Core.Logic.{inl, inr}
use mathlib.Core.Path.{refl, sym, ap, ◌∙◌}
use native.Mathlib.Omega.{arith}
use Rattle.hp_algebra.specs.Ring.{RingOf, IsRing}
use Rattle.hp_algebra.proofs.Rings.{zero_add, add_cancel, mul_zero, zero_mul}
use Rattle.hp_minres.specs.Grids.{skip, sum}

-- x at r, and c at the other places
abbrev pub put : {R : Type 0} → ℕ → R → (ℕ → R) → ℕ → R
put zero x c zero = x
put zero x c (suc i) = c i
put (suc r) x c zero = c zero
put (suc r) x c (suc i) = put r x (λ k. c (suc k)) i

pub place : (r i : ℕ) → (i ≡ r) ⊎ ((k : ℕ) × (i ≡ skip r k))
place zero zero = inl refl
place zero (suc i) = inr (i, refl)
place (suc r) zero = inr (zero, refl)
place (suc r) (suc i) = next (place r i)
  where
    next : (i ≡ r) ⊎ ((k : ℕ) × (i ≡ skip r k)) → (suc i ≡ suc r) ⊎ ((k : ℕ) × (suc i ≡ skip (suc r) k))
    next (inl e) = inl (ap suc e)
    next (inr p) = inr (suc p.0, ap suc p.1)

pub skip_above : (r i : ℕ) → r ≤ i → skip r i ≡ suc i
skip_above zero i l = refl
skip_above (suc r) zero l = absurd (omega arith)
skip_above (suc r) (suc i) l = ap suc (skip_above r i (omega arith))

pub skip_below : (r i : ℕ) → i < r → skip r i ≡ i
skip_below zero i l = absurd (omega arith)
skip_below (suc r) zero l = refl
skip_below (suc r) (suc i) l = ap suc (skip_below r i (omega arith))

-- both stay in order
pub skip_range : (r n i : ℕ) → i < n → skip r i < suc n
skip_range zero n i l = omega arith
skip_range (suc r) zero i l = absurd (omega arith)
skip_range (suc r) (suc n) zero l = omega arith
skip_range (suc r) (suc n) (suc i) l = let h = skip_range r n i (omega arith) in omega arith

pub skip_rises : (r i j : ℕ) → i ≤ j → skip r i ≤ skip r j
skip_rises zero i j l = omega arith
skip_rises (suc r) zero j l = omega arith
skip_rises (suc r) (suc i) zero l = absurd (omega arith)
skip_rises (suc r) (suc i) (suc j) l = let h = skip_rises r i j (omega arith) in omega arith

pub put_same : {R : Type 0} (r : ℕ) (x : R) (c : ℕ → R) → put r x c r ≡ x
put_same zero x c = refl
put_same (suc r) x c = put_same r x (λ k. c (suc k))

pub put_other : {R : Type 0} (r : ℕ) (x : R) (c : ℕ → R) (i : ℕ) → put r x c (skip r i) ≡ c i
put_other zero x c i = refl
put_other (suc r) x c zero = refl
put_other (suc r) x c (suc i) = put_other r x (λ k. c (suc k)) i

-- what holds at r and at the other places holds everywhere
pub every_place : (P : ℕ → Type 0) (r : ℕ) → P r → ((k : ℕ) → P (skip r k)) → (i : ℕ) → P i
every_place P zero p q zero = p
every_place P zero p q (suc i) = q i
every_place P (suc r) p q zero = q zero
every_place P (suc r) p q (suc i) = every_place (λ k. P (suc k)) r p (λ k. q (suc k)) i

pub three_ways : (m n : ℕ) → (m < n) ⊎ ((m ≡ n) ⊎ (n < m))
three_ways zero zero = inr (inl refl)
three_ways zero (suc n) = inl (omega arith)
three_ways (suc m) zero = inr (inr (omega arith))
three_ways (suc m) (suc n) = up (three_ways m n)
  where
    up : (m < n) ⊎ ((m ≡ n) ⊎ (n < m)) → (suc m < suc n) ⊎ ((suc m ≡ suc n) ⊎ (suc n < suc m))
    up (inl l) = inl (omega arith)
    up (inr (inl e)) = inr (inl (ap suc e))
    up (inr (inr g)) = inr (inr (omega arith))

-- each place has a value
abbrev pub Values : {R : Type 0} → RingOf R → (ℕ → R) → Type 0
Values ring c = (i : ℕ) → ring.IsValue (c i)

module _ {R : Type 0} {ring : RingOf R} (laws : IsRing ring) where
  open ring use {add as ◌⊕◌, mul as ◌⊗◌, neg, zero as 0ᵣ, one as 1ᵣ, IsValue}

  infixl 60 ◌⊕◌
  infixl 70 ◌⊗◌
  -- ---- negatives

  pub neg_unique : (x y : R) → IsValue x → IsValue y → x ⊕ y ≡ 0ᵣ → y ≡ neg x
  neg_unique x y vx vy e = add_cancel laws x y (neg x) vx vy (laws.neg_value x vx) (e ∙ sym (laws.add_neg x vx))

  pub neg_add_self : (x : R) → IsValue x → neg x ⊕ x ≡ 0ᵣ
  neg_add_self x v = laws.add_comm (neg x) x (laws.neg_value x v) v ∙ laws.add_neg x v

  pub neg_zero : neg 0ᵣ ≡ 0ᵣ
  neg_zero = sym (neg_unique 0ᵣ 0ᵣ laws.zero_value laws.zero_value (laws.add_zero 0ᵣ laws.zero_value))

  pub mul_neg : (x y : R) → IsValue x → IsValue y → x ⊗ neg y ≡ neg (x ⊗ y)
  mul_neg x y vx vy =
      let vn = laws.neg_value y vy in
      neg_unique (x ⊗ y) (x ⊗ neg y) (laws.mul_value x y vx vy) (laws.mul_value x (neg y) vx vn)
      (sym (laws.mul_add x y (neg y) vx vy vn) ∙ ap (λ u. x ⊗ u) (laws.add_neg y vy) ∙ mul_zero laws x vx)

  pub add_pairs : (x y z w : R) → IsValue x → IsValue y → IsValue z → IsValue w → (x ⊕ y) ⊕ (z ⊕ w) ≡ (x ⊕ z) ⊕ (y ⊕ w)
  add_pairs x y z w vx vy vz vw =
      laws.add_assoc x y (z ⊕ w) vx vy (laws.add_value z w vz vw)
      ∙ ap (λ u. x ⊕ u) (sym (laws.add_assoc y z w vy vz vw) ∙ ap (λ u. u ⊕ w) (laws.add_comm y z vy vz) ∙ laws.add_assoc z y w vz vy vw)
      ∙ sym (laws.add_assoc x z (y ⊕ w) vx vz (laws.add_value y w vy vw))

  pub neg_add : (x y : R) → IsValue x → IsValue y → neg (x ⊕ y) ≡ neg x ⊕ neg y
  neg_add x y vx vy =
      let nx = laws.neg_value x vx in
      let ny = laws.neg_value y vy in
      sym (neg_unique (x ⊕ y) (neg x ⊕ neg y) (laws.add_value x y vx vy) (laws.add_value _ _ nx ny)
      (add_pairs x y (neg x) (neg y) vx vy nx ny ∙ (λ i. laws.add_neg x vx i ⊕ laws.add_neg y vy i) ∙ laws.add_zero 0ᵣ laws.zero_value))

  -- (t + s) - (t + p) = s - p
  pub drop_both : (t s p : R) → IsValue t → IsValue s → IsValue p → (t ⊕ s) ⊕ neg (t ⊕ p) ≡ s ⊕ neg p
  drop_both t s p vt vs vp =
      let nt = laws.neg_value t vt in
      let np = laws.neg_value p vp in
      ap (λ u. (t ⊕ s) ⊕ u) (neg_add t p vt vp) ∙ add_pairs t s (neg t) (neg p) vt vs nt np ∙ ap (λ u. u ⊕ (s ⊕ neg p)) (laws.add_neg t vt)
      ∙ zero_add laws (s ⊕ neg p) (laws.add_value s (neg p) vs np)

  -- ---- sums over the numbers below n

  pub sum_value : (n : ℕ) (f : ℕ → R) → Values ring f → IsValue (sum ring n f)
  sum_value zero f v = laws.zero_value
  sum_value (suc n) f v = laws.add_value (f zero) _ (v zero) (sum_value n (λ i. f (suc i)) (λ i. v (suc i)))

  pub sum_same : (n : ℕ) (f g : ℕ → R) → ((i : ℕ) → i < n → f i ≡ g i) → sum ring n f ≡ sum ring n g
  sum_same zero f g e = refl
  sum_same (suc n) f g e = λ k. e zero (omega arith) k ⊕ sum_same n (λ i. f (suc i)) (λ i. g (suc i)) (λ i l. e (suc i) (omega arith)) k

  pub sum_zero : (n : ℕ) → sum ring n (λ i. 0ᵣ) ≡ 0ᵣ
  sum_zero zero = refl
  sum_zero (suc n) = zero_add laws _ (sum_value n (λ i. 0ᵣ) (λ i. laws.zero_value)) ∙ sum_zero n

  pub sum_add : (n : ℕ) (f g : ℕ → R) → Values ring f → Values ring g → sum ring n (λ i. f i ⊕ g i) ≡ sum ring n f ⊕ sum ring n g
  sum_add zero f g vf vg = sym (laws.add_zero 0ᵣ laws.zero_value)
  sum_add (suc n) f g vf vg =
      let vf' : Values ring (λ i. f (suc i)) = λ i. vf (suc i) in
      let vg' : Values ring (λ i. g (suc i)) = λ i. vg (suc i) in
      ap (λ u. (f zero ⊕ g zero) ⊕ u) (sum_add n (λ i. f (suc i)) (λ i. g (suc i)) vf' vg')
      ∙ add_pairs (f zero) (g zero) _ _ (vf zero) (vg zero) (sum_value n (λ i. f (suc i)) vf') (sum_value n (λ i. g (suc i)) vg')

  pub sum_mul : (n : ℕ) (x : R) (f : ℕ → R) → IsValue x → Values ring f → sum ring n (λ i. x ⊗ f i) ≡ x ⊗ sum ring n f
  sum_mul zero x f vx vf = sym (mul_zero laws x vx)
  sum_mul (suc n) x f vx vf =
      let vf' : Values ring (λ i. f (suc i)) = λ i. vf (suc i) in
      ap (λ u. x ⊗ f zero ⊕ u) (sum_mul n x (λ i. f (suc i)) vx vf') ∙ sym (laws.mul_add x (f zero) _ vx (vf zero) (sum_value n (λ i. f (suc i)) vf'))

  pub sum_mul_right : (n : ℕ) (x : R) (f : ℕ → R) → IsValue x → Values ring f → sum ring n (λ i. f i ⊗ x) ≡ sum ring n f ⊗ x
  sum_mul_right zero x f vx vf = sym (zero_mul laws x vx)
  sum_mul_right (suc n) x f vx vf =
      let vf' : Values ring (λ i. f (suc i)) = λ i. vf (suc i) in
      ap (λ u. f zero ⊗ x ⊕ u) (sum_mul_right n x (λ i. f (suc i)) vx vf') ∙ sym (laws.add_mul (f zero) _ x (vf zero) (sum_value n (λ i. f (suc i)) vf') vx)

  pub sum_neg : (n : ℕ) (f : ℕ → R) → Values ring f → sum ring n (λ i. neg (f i)) ≡ neg (sum ring n f)
  sum_neg zero f v = sym neg_zero
  sum_neg (suc n) f v =
      let v' : Values ring (λ i. f (suc i)) = λ i. v (suc i) in
      ap (λ u. neg (f zero) ⊕ u) (sum_neg n (λ i. f (suc i)) v') ∙ sym (neg_add (f zero) _ (v zero) (sum_value n (λ i. f (suc i)) v'))

  pub sum_swap : (m n : ℕ) (f : ℕ → ℕ → R) → ((i : ℕ) → Values ring (f i)) → sum ring m (λ i. sum ring n (f i)) ≡ sum ring n (λ j. sum ring m (λ i. f i j))
  sum_swap zero n f v = sym (sum_zero n)
  sum_swap (suc m) n f v =
      ap (λ u. sum ring n (f zero) ⊕ u) (sum_swap m n (λ i. f (suc i)) (λ i. v (suc i)))
      ∙ sym (sum_add n (f zero) (λ j. sum ring m (λ i. f (suc i) j)) (v zero) (λ j. sum_value m (λ i. f (suc i) j) (λ i. v (suc i) j)))

  -- a sum, by its term at r and the others
  pub sum_skip : (r n : ℕ) (f : ℕ → R) → Values ring f → r ≤ n → sum ring (suc n) f ≡ f r ⊕ sum ring n (λ i. f (skip r i))
  sum_skip zero n f v l = refl
  sum_skip (suc r) zero f v l = absurd (omega arith)
  sum_skip (suc r) (suc n) f v l =
      let rest = λ (i : ℕ). f (suc (skip r i)) in
      let vs = sum_value n rest (λ i. v (suc (skip r i))) in
      ap (λ u. f zero ⊕ u) (sum_skip r n (λ i. f (suc i)) (λ i. v (suc i)) (omega arith))
      ∙ sym (laws.add_assoc (f zero) (f (suc r)) _ (v zero) (v (suc r)) vs)
      ∙ ap (λ u. u ⊕ sum ring n rest) (laws.add_comm (f zero) (f (suc r)) (v zero) (v (suc r)))
      ∙ laws.add_assoc (f (suc r)) (f zero) _ (v (suc r)) (v zero) vs
