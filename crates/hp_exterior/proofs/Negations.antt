-- Negatives of sums and of products in a ring.
use Rattle.std.specs.Prelude.{◌≡◌}
use mathlib.Core.Path.{sym, ap, ◌∙◌}
use Rattle.hp_algebra.specs.Ring.{RingOf, IsRing, IsCommutative}
use Rattle.hp_algebra.proofs.Rings.{add_cancel, add_swap, neg_mul, zero_add}

pub both_sides : {A B C : Type 0} (f : A → B → C) (a b : A) (c d : B) → a ≡ b → c ≡ d → f a c ≡ f b d
both_sides f a b c d p q = λ i. f (p i) (q i)

module _ {R : Type 0} {ring : RingOf R} (laws : IsRing ring) where
  open ring use {IsValue, zero as 0ᵣ, one as 1ᵣ, add, neg, mul}

  pub neg_zero : neg 0ᵣ ≡ 0ᵣ
  neg_zero = sym (zero_add laws _ (laws.neg_value 0ᵣ laws.zero_value)) ∙ laws.add_neg 0ᵣ laws.zero_value

  pub neg_add : (x y : R) → IsValue x → IsValue y → neg (add x y) ≡ add (neg x) (neg y)
  neg_add x y vx vy =
      let nx = laws.neg_value x vx in
      let ny = laws.neg_value y vy in
      let xy = laws.add_value x y vx vy in
      let nn = laws.add_value _ _ nx ny in
      add_cancel laws (add x y) _ _ xy (laws.neg_value _ xy) nn
      (laws.add_neg _ xy
      ∙ sym (laws.add_assoc x y _ vx vy nn
      ∙ ap (add x) (add_swap laws y (neg x) (neg y) vy nx ny ∙ ap (add (neg x)) (laws.add_neg y vy) ∙ laws.add_zero _ nx)
      ∙ laws.add_neg x vx))

  -- (a + b) + (c + d) = (a + c) + (b + d)
  pub four : (a b c d : R) → IsValue a → IsValue b → IsValue c → IsValue d
      → add (add a b) (add c d) ≡ add (add a c) (add b d)
  four a b c d va vb vc vd =
      laws.add_assoc a b _ va vb (laws.add_value c d vc vd) ∙ ap (add a) (add_swap laws b c d vb vc vd)
      ∙ sym (laws.add_assoc a c _ va vc (laws.add_value b d vb vd))

  -- what a value and zero differ by is its negative
  pub neg_from_zero : (x y : R) → IsValue x → IsValue y → add x y ≡ 0ᵣ → y ≡ neg x
  neg_from_zero x y vx vy e = add_cancel laws x y (neg x) vx vy (laws.neg_value x vx) (e ∙ sym (laws.add_neg x vx))

  pub minus_one : (y : R) → IsValue y → mul (neg 1ᵣ) y ≡ neg y
  minus_one y v = neg_mul laws 1ᵣ y laws.one_value v ∙ ap neg (laws.one_mul y v)

  pub mul_neg : IsCommutative ring → (c y : R) → IsValue c → IsValue y → mul c (neg y) ≡ neg (mul c y)
  mul_neg commutes c y v w =
      commutes c _ v (laws.neg_value y w) ∙ neg_mul laws y c w v ∙ ap neg (commutes y c w v)
