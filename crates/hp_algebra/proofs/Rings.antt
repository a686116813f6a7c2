-- What follows from the laws of a ring and a domain.
use Rattle.std.proofs.Common.{◌≡◌, ◌≢◌, ◌⊎◌, ◌↔◌, Bool, true, false, IsTrue, refl, sym, ap, subst, ◌∙◌, inl, inr}
use Rattle.std.proofs.lemmas.Bool.{cases_Bool, false≢true}
use Rattle.hp_algebra.specs.Ring.{RingOf, IsRing, IsDomain, IsField}

module _ {R : Type 0} {ring : RingOf R} (laws : IsRing ring) where
  pub zero_add : (x : R) → ring.IsValue x → ring.add ring.zero x ≡ x
  zero_add x v = laws.add_comm _ _ laws.zero_value v ∙ laws.add_zero x v

  -- a summand in front may be dropped
  pub add_cancel : (x y z : R) → ring.IsValue x → ring.IsValue y → ring.IsValue z
      → ring.add x y ≡ ring.add x z → y ≡ z
  add_cancel x y z vx vy vz e =
      sym (drops y vy) ∙ ap (λ s. ring.add (ring.neg x) s) e ∙ drops z vz
    where
      drops : (y : R) → ring.IsValue y → ring.add (ring.neg x) (ring.add x y) ≡ y
      drops y vy =
          sym (laws.add_assoc _ _ _ (laws.neg_value x vx) vx vy)
          ∙ ap (λ s. ring.add s y) (laws.add_comm _ _ (laws.neg_value x vx) vx ∙ laws.add_neg x vx)
          ∙ zero_add y vy

  pub add_cancel_right : (x y z : R) → ring.IsValue x → ring.IsValue y → ring.IsValue z → ring.add x z ≡ ring.add y z
      → x ≡ y
  add_cancel_right x y z vx vy vz e = add_cancel z x y vz vx vy (laws.add_comm z x vz vx ∙ e ∙ laws.add_comm y z vy vz)

  -- x + (y + z) = y + (x + z)
  pub add_swap : (x y z : R) → ring.IsValue x → ring.IsValue y → ring.IsValue z
      → ring.add x (ring.add y z) ≡ ring.add y (ring.add x z)
  add_swap x y z vx vy vz =
      sym (laws.add_assoc x y z vx vy vz) ∙ ap (λ u. ring.add u z) (laws.add_comm x y vx vy) ∙ laws.add_assoc y x z vy vx vz

  pub neg_neg : (x : R) → ring.IsValue x → ring.neg (ring.neg x) ≡ x
  neg_neg x v =
      let n = laws.neg_value x v in
      let nn = laws.neg_value _ n in
      add_cancel (ring.neg x) _ _ n nn v (laws.add_neg _ n ∙ sym (laws.add_neg x v) ∙ laws.add_comm _ _ v n)

  -- ---- the test for zero

  pub zero_passes : (x : R) → x ≡ ring.zero → ring.is_zero x ≡ true
  zero_passes x e = ap ring.is_zero e ∙ (laws.zero_test ring.zero laws.zero_value).1 refl

  pub nonzero_fails : (x : R) → ring.IsValue x → x ≢ ring.zero → ring.is_zero x ≡ false
  nonzero_fails x v nonzero = elim (cases_Bool (ring.is_zero x)) [ inl e ↦ absurd (nonzero ((laws.zero_test x v).0 e)) | inr e ↦ e ]

  -- ---- products

  pub mul_zero : (x : R) → ring.IsValue x → ring.mul x ring.zero ≡ ring.zero
  mul_zero x v =
      let product = laws.mul_value _ _ v laws.zero_value in
      add_cancel (ring.mul x ring.zero) (ring.mul x ring.zero) ring.zero product product laws.zero_value
      (sym (laws.mul_add _ _ _ v laws.zero_value laws.zero_value)
      ∙ ap (λ s. ring.mul x s) (laws.add_zero _ laws.zero_value)
      ∙ sym (laws.add_zero _ product))

  pub zero_mul : (x : R) → ring.IsValue x → ring.mul ring.zero x ≡ ring.zero
  zero_mul x v =
      let product = laws.mul_value _ _ laws.zero_value v in
      add_cancel (ring.mul ring.zero x) (ring.mul ring.zero x) ring.zero product product laws.zero_value
      (sym (laws.add_mul _ _ _ laws.zero_value laws.zero_value v)
      ∙ ap (λ s. ring.mul s x) (laws.add_zero _ laws.zero_value)
      ∙ sym (laws.add_zero _ product))

  pub neg_mul : (x y : R) → ring.IsValue x → ring.IsValue y → ring.mul (ring.neg x) y ≡ ring.neg (ring.mul x y)
  neg_mul x y vx vy =
      let n = laws.neg_value x vx in
      let product = laws.mul_value x y vx vy in
      add_cancel (ring.mul x y) _ _ product (laws.mul_value _ y n vy) (laws.neg_value _ product)
      (sym (laws.add_mul x _ y vx n vy) ∙ ap (λ s. ring.mul s y) (laws.add_neg x vx) ∙ zero_mul y vy ∙ sym (laws.add_neg _ product))

  -- y and z are equal where their difference is zero
  pub same_from_difference : (y z : R) → ring.IsValue y → ring.IsValue z
      → ring.add y (ring.neg z) ≡ ring.zero → y ≡ z
  same_from_difference y z vy vz e =
      let nz = laws.neg_value z vz in
      add_cancel (ring.neg z) y z nz vy vz
      (laws.add_comm _ _ nz vy ∙ e ∙ sym (laws.add_neg z vz) ∙ laws.add_comm _ _ vz nz)

  -- a factor that is not zero may be dropped
  pub mul_cancel : IsDomain ring → (x y z : R) → ring.IsValue x → ring.IsValue y → ring.IsValue z
      → x ≢ ring.zero → ring.mul x y ≡ ring.mul x z → y ≡ z
  mul_cancel domain x y z vx vy vz nonzero e =
      let nz = laws.neg_value z vz in
      let difference : ring.mul x (ring.add y (ring.neg z)) ≡ ring.zero =
      laws.mul_add _ _ _ vx vy nz
      ∙ ap (λ s. ring.add s (ring.mul x (ring.neg z))) e
      ∙ sym (laws.mul_add _ _ _ vx vz nz)
      ∙ ap (λ s. ring.mul x s) (laws.add_neg z vz)
      ∙ mul_zero x vx in
      elim (domain.no_zero_divisors x _ vx (laws.add_value _ _ vy nz) difference) [
        | inl none ↦ absurd (nonzero none)
        | inr none ↦ same_from_difference y z vy vz none
      ]

  -- a product is zero exactly where a factor is
  pub product-zero : IsDomain ring → (x y : R) → ring.IsValue x → ring.IsValue y
      → ((x ≡ ring.zero) ⊎ (y ≡ ring.zero)) ↔ (ring.mul x y ≡ ring.zero)
  product-zero domain x y vx vy = (
    λ some. elim some [
      | inl left ↦ ap (λ s. ring.mul s y) left ∙ zero_mul y vy
      | inr right ↦ ap (λ s. ring.mul x s) right ∙ mul_zero x vx
    ],
    domain.no_zero_divisors x y vx vy,
  )

  -- the tests of the factors for zero tell whether the product is zero
  pub product_test : IsDomain ring → (x y : R) (a b : Bool) → ring.IsValue x → ring.IsValue y
      → a ≡ ring.is_zero x → b ≡ ring.is_zero y → (IsTrue a ⊎ IsTrue b) ↔ (ring.mul x y ≡ ring.zero)
  product_test domain x y a b vx vy ea eb =
      let at_x = laws.zero_test x vx in
      let at_y = laws.zero_test y vy in
      let product = product-zero domain x y vx vy in (
        λ some. product.0 (elim some [ inl t ↦ inl (at_x.0 (subst IsTrue ea t)) | inr t ↦ inr (at_y.0 (subst IsTrue eb t)) ]),
        λ none. elim (product.1 none) [ inl e ↦ inl (subst IsTrue (sym ea) (at_x.1 e)) | inr e ↦ inr (subst IsTrue (sym eb) (at_y.1 e)) ],
      )

-- A field is a domain.
pub field-domain : {F : Type 0} {ring : RingOf F} {inverse : F → F} → IsField ring inverse → IsDomain ring
field-domain {F} {ring} {inverse} field = record {
  one_zero = field.one_zero;
  no_zero_divisors = λ x y vx vy e. other x y vx vy e (zero_or_not x vx);
}
  where
    zero_or_not : (x : F) → ring.IsValue x → (x ≡ ring.zero) ⊎ (x ≢ ring.zero)
    zero_or_not x v =
        let test = field.is_ring.zero_test x v in
        elim (cases_Bool (ring.is_zero x)) [ inl e ↦ inl (test.0 e) | inr e ↦ inr (λ z. false≢true (sym e ∙ test.1 z)) ]

    other : (x y : F) → ring.IsValue x → ring.IsValue y → ring.mul x y ≡ ring.zero → (x ≡ ring.zero) ⊎ (x ≢ ring.zero)
        → (x ≡ ring.zero) ⊎ (y ≡ ring.zero)
    other x y vx vy e (inl z) = inl z
    other x y vx vy e (inr n) =
        let laws = field.is_ring in
        let vi = field.inverse_value x vx n in
        inr (sym (laws.one_mul y vy)
        ∙ ap (λ u. ring.mul u y) (sym (field.commutes (inverse x) x vi vx ∙ field.mul_inverse x vx n))
        ∙ laws.mul_assoc (inverse x) x y vi vx vy ∙ ap (ring.mul (inverse x)) e ∙ mul_zero laws (inverse x) vi)
