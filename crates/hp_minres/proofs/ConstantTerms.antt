-- The constant term is a homomorphism from the polynomials; entries of one degree; constants other than zero are units.
use Rattle.std.specs.Prelude.{◌≡◌, ◌≢◌, ◌⊎◌, Bool, true, false, cond, ℕ, zero, suc, ◌+◌, ◌≤◌, List, [], ◌∷◌, All, replicate, slice_index_or}
use Rattle.std.specs.declared.cmp.Ordering.TheVariants.{Less, Equal}
use Rattle.std.proofs.lemmas.List.Elements.{All-nil, All-cons, All-head, All-tail}
use mathlib.Core.Logic.{inl, inr}
use mathlib.Core.Path.{refl, sym, ap, ◌∙◌}
use native.Mathlib.Omega.{arith}
use Rattle.hp_algebra.specs.Ring.{RingOf, IsRing, IsCommutative, IsField, power}
use Rattle.hp_algebra.proofs.Rings.{mul_zero, zero_mul, zero_add}
use Rattle.hp_mono.specs.Monomials as mono
use Rattle.hp_mono.specs.Monomials.{Monomial, IsMonomial, product, degree, vars}
use Rattle.hp_mono.proofs.MonomialLaws.{degree_product}
use Rattle.hp_sums.specs.FiniteSums.{HasValues, collect}
use Rattle.hp_sums.proofs.Collected.{sum-after}
use Rattle.hp_sums.proofs.SumLaws.{plus-keys, negative-keys}
use Rattle.hp_poly.specs.Polynomials.{Poly, IsPoly, poly_ring, poly_plus, poly_neg, poly_times, monomial_value, constant, IsHomogeneous, from_greatest}
use Rattle.hp_poly.specs.PolyRing.{poly_is_ring, poly-values, times-keys}
use Rattle.hp_poly.specs.PolySetting.{poly_setting}
use Rattle.hp_poly.proofs.Evaluation.{monomial-value, value-IsValue, value_plus, value_times, value_constant, value_neg}
use Rattle.hp_module.proofs.ExchangedGenerators.{degree-zero}
use Rattle.hp_minres.specs.Grids.{sum}
use Rattle.hp_minres.specs.Reductions.{HasStep, IsUnit, constant_term}
use Rattle.hp_minres.proofs.RangeSums.{Values, sum_value}

pub all_zeros : {F : Type 0} {ring : RingOf F} (laws : IsRing ring) (n : ℕ) → All ring.IsValue (replicate n ring.zero)
all_zeros {ring} laws zero = All-nil ring.IsValue
all_zeros {ring} laws (suc n) = All-cons ring.IsValue ring.zero (replicate n ring.zero) laws.zero_value (all_zeros laws n)

module _ {F : Type 0} {ring : RingOf F} (laws : IsRing ring) (comm : IsCommutative ring) where
  open ring use {add, mul, neg, zero as 0ₖ, one as 1ₖ, IsValue}

  abbrev P : IsRing (poly_ring ring)
  P = poly_is_ring laws comm

  abbrev ε : Poly F → F
  ε p = constant_term ring p

  abbrev origin : All IsValue (replicate vars 0ₖ)
  origin = all_zeros laws vars

  pub constant_value : (p : Poly F) → IsPoly ring p → IsValue (constant_term ring p)
  constant_value p h = value-IsValue laws comm (replicate vars 0ₖ) origin p (poly-values laws comm p h)

  pub constant_nothing : constant_term ring [] ≡ 0ₖ
  constant_nothing = refl

  pub constant_plus : (p q : Poly F) → IsPoly ring p → IsPoly ring q
      → constant_term ring (poly_plus ring p q) ≡ add (constant_term ring p) (constant_term ring q)
  constant_plus p q f g = value_plus laws comm (replicate vars 0ₖ) origin p q f g

  pub constant_one : constant_term ring (constant ring 1ₖ) ≡ 1ₖ
  constant_one = value_constant laws comm (replicate vars 0ₖ) origin 1ₖ laws.one_value

  pub constant_negative : (p : Poly F) → IsPoly ring p → constant_term ring (poly_neg ring p) ≡ neg (constant_term ring p)
  constant_negative p h = value_neg laws comm (replicate vars 0ₖ) origin p h

  pub constant_times : (p q : Poly F) → IsPoly ring p → IsPoly ring q
      → constant_term ring (poly_times ring p q) ≡ mul (constant_term ring p) (constant_term ring q)
  constant_times p q f g = value_times laws comm (replicate vars 0ₖ) origin p q f g

  -- a sum of products with second factors that have no constant term has none
  pub constant_sum : (n : ℕ) (c d : ℕ → Poly F) → Values (poly_ring ring) c → Values (poly_ring ring) d
      → ((i : ℕ) → constant_term ring (d i) ≡ 0ₖ) → constant_term ring (sum (poly_ring ring) n (λ i. poly_times ring (c i) (d i))) ≡ 0ₖ
  constant_sum zero c d vc vd z = constant_nothing
  constant_sum (suc n) c d vc vd z =
      let h = P.mul_value (c zero) (d zero) (vc zero) (vd zero) in
      let later = sum_value P n (λ i. poly_times ring (c (suc i)) (d (suc i))) (λ i. P.mul_value (c (suc i)) (d (suc i)) (vc (suc i)) (vd (suc i))) in
      let here = constant_times (c zero) (d zero) (vc zero) (vd zero) ∙ ap (mul (ε (c zero))) (z zero) ∙ mul_zero laws _ (constant_value (c zero) (vc zero)) in
      let rest = constant_sum n (λ i. c (suc i)) (λ i. d (suc i)) (λ i. vc (suc i)) (λ i. vd (suc i)) (λ i. z (suc i)) in
      constant_plus _ _ h later ∙ (λ k. add (here k) (rest k)) ∙ laws.add_zero 0ₖ laws.zero_value

  -- ---- degrees

  pub step_plus : (a b : ℕ) (p q : Poly F) → HasStep a b p → HasStep a b q → HasStep a b (poly_plus ring p q)
  step_plus a b p q f g = plus-keys (poly_setting laws comm) (λ m. degree m + a ≡ b) p q f g

  pub step_negative : (a b : ℕ) (p : Poly F) → HasStep a b p → HasStep a b (poly_neg ring p)
  step_negative a b p f = negative-keys (poly_setting laws comm) (λ m. degree m + a ≡ b) p f

  pub step_times : (a b c : ℕ) (p q : Poly F) → IsPoly ring p → IsPoly ring q → HasStep a b p → HasStep c a q
      → HasStep c b (poly_times ring p q)
  step_times a b c p q hp hq f g =
      times-keys laws comm (λ m. degree m + c ≡ b) p q
      (λ i t l j u k. omega (arith, degree_product vars _ _ (hp.monomials i t l) (hq.monomials j u k), f i t l, g j u k))

  -- where the exponents are not all zero, the value at zero is zero
  monomial_high : (n : ℕ) (m : Monomial) → mono.degree m ≢ 0 → Rattle.std.specs.Prelude.length m ≡ n → monomial_value ring (replicate n 0ₖ) m ≡ 0ₖ
  monomial_high n [] h e = absurd (h refl)
  monomial_high zero (x ∷ m) h e = absurd (omega (arith, e))
  monomial_high (suc n) (zero ∷ m) h e =
      laws.one_mul _ (monomial-value laws comm (replicate n 0ₖ) m (all_zeros laws n)) ∙ monomial_high n m (λ z. h z) (omega (arith, e))
  monomial_high (suc n) (suc x ∷ m) h e =
      let v = monomial-value laws comm (replicate n 0ₖ) m (all_zeros laws n) in
      let pv = Rattle.hp_poly.proofs.FactorLaws.power-value laws 0ₖ x laws.zero_value in
      ap (λ y. mul y (monomial_value ring (replicate n 0ₖ) m)) (zero_mul laws (power ring 0ₖ x) pv) ∙ zero_mul laws _ v

  -- where every term's degree is positive there is no constant term
  pub constant_high : (a b : ℕ) (p : Poly F) → IsPoly ring p → HasStep a b p → a ≢ b → constant_term ring p ≡ 0ₖ
  constant_high a b p h s n = go p (poly-values laws comm p h) h.monomials s
    where
      go : (xs : Poly F) → HasValues ring xs → All (λ t. IsMonomial t.0) xs → HasStep a b xs → constant_term ring xs ≡ 0ₖ
      go [] v m s = refl
      go (t ∷ xs) v m s =
          let st = All-head (λ (u : Monomial × F). degree u.0 + a ≡ b) t xs s in
          let high : degree t.0 ≢ 0 = λ z. n (omega (arith, z, st)) in
          let here = ap (mul t.1) (monomial_high vars t.0 high (All-head (λ (u : Monomial × F). IsMonomial u.0) t xs m))
          ∙ mul_zero laws t.1 (All-head (λ (u : Monomial × F). IsValue u.1) t xs v) in
          let rest = go xs (All-tail (λ (u : Monomial × F). IsValue u.1) t xs v) (All-tail (λ (u : Monomial × F). IsMonomial u.0) t xs m)
          (All-tail (λ (u : Monomial × F). degree u.0 + a ≡ b) t xs s) in
          (λ k. add (here k) (rest k)) ∙ laws.add_zero 0ₖ laws.zero_value

  -- A polynomial of degree 0 is zero or one term at 1.
  pub constant_poly : (p : Poly F) → IsPoly ring p → IsHomogeneous ring 0 p
      → (p ≡ []) ⊎ ((x : F) × IsValue x × (x ≢ 0ₖ) × (p ≡ (mono.one, x) ∷ []))
  constant_poly [] h s = inl refl
  constant_poly (t ∷ []) h s =
      let own = All-head (λ (u : Monomial × F). IsValue u.1 × (u.1 ≢ 0ₖ)) t [] h.is_sum.values in
      let one = degree-zero t.0 (All-head (λ (u : Monomial × F). IsMonomial u.0) t [] h.monomials) (All-head (λ (u : Monomial × F). degree u.0 ≡ 0) t [] s) in
      inr (t.1, own.0, own.1, λ k. (one k, t.1) ∷ [])
  constant_poly (t ∷ u ∷ p) h s =
      let M : Monomial × F → Type 0 = λ u. IsMonomial u.0 in
      let Z : Monomial × F → Type 0 = λ u. degree u.0 ≡ 0 in
      let et = degree-zero t.0 (All-head M t (u ∷ p) h.monomials) (All-head Z t (u ∷ p) s) in
      let eu = degree-zero u.0 (All-head M u p (All-tail M t (u ∷ p) h.monomials)) (All-head Z u p (All-tail Z t (u ∷ p) s)) in
      let after = All-head (λ (v : Monomial × F). from_greatest t.0 v.0 ≡ Less) u p (sum-after (poly_setting laws comm) t (u ∷ p) h.is_sum) in
      let same : Equal ≡ Less = (λ k. from_greatest (sym et k) (sym eu k)) ∙ after in
      absurd cc

  -- the constant term of a constant
  pub constant_unit : (x : F) → IsValue x → constant_term ring ((mono.one, x) ∷ []) ≡ x
  constant_unit x v =
      let one = Rattle.hp_poly.proofs.Evaluation.value_one laws comm (replicate vars 0ₖ) vars origin in
      ap (λ y. add (mul x y) 0ₖ) one ∙ laws.add_zero (mul x 1ₖ) (laws.mul_value x 1ₖ v laws.one_value) ∙ laws.mul_one x v

module _ {F : Type 0} {ring : RingOf F} {inverse : F → F} (field : IsField ring inverse) where
  pub constant_is_poly : (x : F) → ring.IsValue x → x ≢ ring.zero → IsPoly ring ((mono.one, x) ∷ [])
  constant_is_poly x v n =
      let V : Monomial × F → Type 0 = λ t. ring.IsValue t.1 × (t.1 ≢ ring.zero) in
      record {
        is_sum = record { sorted = tt; values = All-cons V (mono.one, x) [] (v, n) (All-nil V) };
        monomials = All-cons (λ (t : Monomial × F). IsMonomial t.0) (mono.one, x) [] refl (All-nil (λ (t : Monomial × F). IsMonomial t.0));
      }

  -- a constant as a polynomial
  pub constant_is : (x : F) → ring.IsValue x → x ≢ ring.zero → constant ring x ≡ (mono.one, x) ∷ []
  constant_is x v n = pick (ring.is_zero (ring.add ring.zero x)) refl
    where
      same : ring.add ring.zero x ≡ x
      same = zero_add field.is_ring x v

      pick : (c : Bool) → ring.is_zero (ring.add ring.zero x) ≡ c
          → cond {A = Poly F} c [] ((mono.one, ring.add ring.zero x) ∷ []) ≡ (mono.one, x) ∷ []
      pick true e = absurd (n (sym same ∙ (field.is_ring.zero_test (ring.add ring.zero x) (field.is_ring.add_value ring.zero x field.is_ring.zero_value v)).0 e))
      pick false e = ap (λ (y : F). (mono.one, y) ∷ []) same

  pub unit_inverse : (x : F) → ring.IsValue x → x ≢ ring.zero
      → IsPoly ring ((mono.one, inverse x) ∷ []) × (poly_times ring ((mono.one, inverse x) ∷ []) ((mono.one, x) ∷ []) ≡ constant ring ring.one)
  unit_inverse x v n =
      let laws : IsRing ring = field.is_ring in
      let vi = field.inverse_value x v n in
      let one : ring.mul (inverse x) x ≡ ring.one = field.commutes (inverse x) x vi v ∙ field.mul_inverse x v n in (
        constant_is_poly (inverse x) vi (λ e. field.one_zero (sym one ∙ ap (λ y. ring.mul y x) e ∙ zero_mul laws x v)),
        ap (λ (c : F). collect from_greatest ring ((mono.one, c) ∷ [])) (laws.mul_one (ring.mul (inverse x) x) (laws.mul_value _ _ vi v) ∙ one),
      )

  -- An entry whose degree is not above that of its row: it is zero or a unit.
  pub low_entry : (a b : ℕ) (p : Poly F) → IsPoly ring p → HasStep a b p → b ≤ a → (p ≡ []) ⊎ IsUnit ring p
  low_entry a b p h s l = pick (constant_poly field.is_ring field.commutes p h (λ k d m. omega (arith, s k d m, l)))
    where
      pick : (p ≡ []) ⊎ ((x : F) × ring.IsValue x × (x ≢ ring.zero) × (p ≡ (mono.one, x) ∷ [])) → (p ≡ []) ⊎ IsUnit ring p
      pick (inl e) = inl e
      pick (inr u) =
          let w = unit_inverse u.0 u.1 u.2 in
          inr ((mono.one, inverse u.0) ∷ [], w.0, ap (poly_times ring ((mono.one, inverse u.0) ∷ [])) u.3 ∙ w.1)
