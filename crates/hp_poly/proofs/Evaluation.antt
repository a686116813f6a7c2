-- Values at a point: of sums, negatives, products and constants.
use Rattle.std.specs.Prelude.{◌≡◌, ℕ, zero, suc, List, [], ◌∷◌, length, All, replicate, slice_index_or}
use Rattle.std.proofs.lemmas.List.Elements.{All-nil, All-cons, All-head, All-tail}
use mathlib.Core.Path.{refl, sym, ap, ◌∙◌}
use native.Mathlib.Omega.{arith}
use Rattle.hp_algebra.specs.Ring.{RingOf, IsRing, IsCommutative, power}
use Rattle.hp_algebra.proofs.Rings.{add_cancel}
use Rattle.hp_mono.specs.Monomials as mono
use Rattle.hp_mono.specs.Monomials.{Monomial, IsMonomial, product, vars}
use Rattle.hp_sums.specs.FiniteSums.{HasValues}
use Rattle.hp_sums.proofs.SumSetting.{SumSetting}
use Rattle.hp_sums.proofs.BilinearSums.{against, weighted-bilinear}
use Rattle.hp_sums.proofs.WeightedSums.{
  weighted,
  weighted-value,
  weighted-plus,
  weighted-collect,
  weighted_ext,
  weighted-mul,
}
use Rattle.hp_poly.specs.Polynomials.{
  Poly,
  IsPoly,
  constant,
  monomial_value,
  poly_neg,
  poly_of,
  poly_plus,
  poly_ring,
  poly_times,
  poly_value,
}
use Rattle.hp_poly.specs.PolySetting.{poly_setting}
use Rattle.hp_poly.specs.PolyRing.{poly_is_ring, poly-values, rule, rule-values}
use Rattle.hp_poly.proofs.FactorLaws.{power-plus, power-value}

module _ {F : Type 0} {ring : RingOf F} (laws : IsRing ring) (commutes : IsCommutative ring) where
  open ring use {zero as 0ₖ, one as 1ₖ, add, neg, mul, IsValue}

  -- ---- of monomials

  pub monomial-value : (ys : List F) (m : Monomial) → All IsValue ys → IsValue (monomial_value ring ys m)
  monomial-value [] m h = laws.one_value
  monomial-value (y ∷ ys) [] h = laws.one_value
  monomial-value (y ∷ ys) (e ∷ m) h =
      laws.mul_value _ _ (power-value laws y e (All-head IsValue y ys h)) (monomial-value ys m (All-tail IsValue y ys h))

  -- (a b) (c d) = (a c) (b d)
  cross : (a b c d : F) → IsValue a → IsValue b → IsValue c → IsValue d → mul (mul a b) (mul c d)
      ≡ mul (mul a c) (mul b d)
  cross a b c d va vb vc vd =
      let cd = laws.mul_value c d vc vd in
      let bd = laws.mul_value b d vb vd in
      laws.mul_assoc a b _ va vb cd
      ∙ ap (mul a) (sym (laws.mul_assoc b c d vb vc vd) ∙ ap (λ u. mul u d) (commutes b c vb vc) ∙ laws.mul_assoc c b d vc vb vd)
      ∙ sym (laws.mul_assoc a c _ va vc bd)

  pub value_product : (ys : List F) (a b : Monomial) → All IsValue ys → length a ≡ length b
      → monomial_value ring ys (product a b) ≡ mul (monomial_value ring ys a) (monomial_value ring ys b)
  value_product [] a b h e = sym (laws.one_mul 1ₖ laws.one_value)
  value_product (y ∷ ys) [] [] h e = sym (laws.one_mul 1ₖ laws.one_value)
  value_product (y ∷ ys) [] (j ∷ b) h e = absurd (omega arith)
  value_product (y ∷ ys) (i ∷ a) [] h e = absurd (omega arith)
  value_product (y ∷ ys) (i ∷ a) (j ∷ b) h e =
      let v = All-head IsValue y ys h in
      let r = All-tail IsValue y ys h in
      let here = power-plus laws y i j v in
      let rest = value_product ys a b r (omega arith) in
      (λ k. mul (here k) (rest k))
      ∙ cross _ _ _ _ (power-value laws y i v) (power-value laws y j v) (monomial-value ys a r) (monomial-value ys b r)

  pub value_one : (ys : List F) (n : ℕ) → All IsValue ys → monomial_value ring ys (replicate n 0) ≡ 1ₖ
  value_one [] n h = refl
  value_one (y ∷ ys) zero h = refl
  value_one (y ∷ ys) (suc n) h =
      let r = All-tail IsValue y ys h in
      laws.one_mul _ (monomial-value ys (replicate n 0) r) ∙ value_one ys n r

  -- ---- of polynomials

  module _ (xs : List F) (values : All IsValue xs) where
    abbrev S : SumSetting Monomial F
    S = poly_setting laws commutes

    abbrev at : Monomial → F
    at m = monomial_value ring xs m

    at-value : (m : Monomial) → IsValue (monomial_value ring xs m)
    at-value m = monomial-value xs m values

    as-functional : (ts : List (Monomial × F)) → poly_value ring xs ts ≡ weighted ring at ts
    as-functional [] = refl
    as-functional (t ∷ ts) = ap (add (mul t.1 (at t.0))) (as-functional ts)

    pub value-IsValue : (ts : List (Monomial × F)) → HasValues ring ts → IsValue (poly_value ring xs ts)
    value-IsValue [] h = laws.zero_value
    value-IsValue (t ∷ ts) h =
        let P : Monomial × F → Type 0 = λ u. IsValue u.1 in
        laws.add_value _ _ (laws.mul_value t.1 _ (All-head P t ts h) (at-value t.0)) (value-IsValue ts (All-tail P t ts h))

    -- the value does not see that terms are collected
    pub value_of : (ts : List (Monomial × F)) → HasValues ring ts → poly_value ring xs (poly_of ring ts)
        ≡ poly_value ring xs ts
    value_of ts h = as-functional _ ∙ weighted-collect S at at-value ts h ∙ sym (as-functional ts)

    pub value_plus : (p q : Poly F) → IsPoly ring p → IsPoly ring q
        → poly_value ring xs (poly_plus ring p q) ≡ add (poly_value ring xs p) (poly_value ring xs q)
    value_plus p q f g =
        as-functional _ ∙ weighted-plus S at at-value p q f.is_sum g.is_sum
        ∙ (λ i. add (sym (as-functional p) i) (sym (as-functional q) i))

    pub value_times : (p q : Poly F) → IsPoly ring p → IsPoly ring q
        → poly_value ring xs (poly_times ring p q) ≡ mul (poly_value ring xs p) (poly_value ring xs q)
    value_times p q f g =
        let r = rule laws commutes in
        let rv = rule-values laws commutes in
        let vp = poly-values laws commutes p f in
        let vq = poly-values laws commutes q g in
        let W = weighted ring at q in
        let vW = weighted-value S at at-value q vq in
        as-functional _ ∙ weighted-bilinear S r rv at at-value p q vp vq
        ∙ weighted_ext S (against S r rv at q) (λ a. mul W (at a)) p (λ i t l.
        weighted_ext S _ (λ c. mul (at (slice_index_or p i t).0) (at c)) q (λ j u m.
        laws.add_zero _ (laws.mul_value 1ₖ _ laws.one_value (at-value _)) ∙ laws.one_mul _ (at-value _)
        ∙ value_product xs (slice_index_or p i t).0 (slice_index_or q j u).0 values (f.monomials i t l ∙ sym (g.monomials j u m)))
        ∙ weighted-mul S (at (slice_index_or p i t).0) at (at-value _) at-value q vq
        ∙ commutes _ W (at-value _) vW)
        ∙ weighted-mul S W at vW at-value p vp ∙ commutes W _ vW (weighted-value S at at-value p vp)
        ∙ (λ i. mul (sym (as-functional p) i) (sym (as-functional q) i))

    pub value_constant : (c : F) → IsValue c → poly_value ring xs (constant ring c) ≡ c
    value_constant c v =
        value_of ((mono.one, c) ∷ [])
        (All-cons (λ (t : Monomial × F). IsValue t.1) (mono.one, c) [] v (All-nil (λ (t : Monomial × F). IsValue t.1)))
        ∙ laws.add_zero _ (laws.mul_value c _ v (at-value mono.one)) ∙ ap (mul c) (value_one xs vars values) ∙ laws.mul_one c v

    pub value_neg : (p : Poly F) → IsPoly ring p → poly_value ring xs (poly_neg ring p) ≡ neg (poly_value ring xs p)
    value_neg p f =
        let P = poly_is_ring laws commutes in
        let n = P.neg_value p f in
        let v = value-IsValue p (poly-values laws commutes p f) in
        add_cancel laws _ _ _ v (value-IsValue _ (poly-values laws commutes _ n)) (laws.neg_value _ v)
        (sym (value_plus p _ f n) ∙ ap (poly_value ring xs) (P.add_neg p f) ∙ sym (laws.add_neg _ v))

    pub value_power : (p : Poly F) (n : ℕ) → IsPoly ring p
        → poly_value ring xs (power (poly_ring ring) p n) ≡ power ring (poly_value ring xs p) n
    value_power p zero f = value_constant 1ₖ laws.one_value
    value_power p (suc n) f =
        let P = poly_is_ring laws commutes in
        value_times p _ f (power-value P p n f) ∙ ap (mul (poly_value ring xs p)) (value_power p n f)
