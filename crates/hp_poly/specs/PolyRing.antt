-- The polynomials over a commutative ring are a commutative ring.
use Rattle.std.specs.Prelude.{◌≡◌, ◌==◌, List, [], ◌∷◌, length, All, IsTrue, ◌↔◌}
use Rattle.std.proofs.lemmas.Bool.{eqb-true, eq-eqb}
use Rattle.std.proofs.lemmas.List.Elements.{All-nil, All-cons}
use mathlib.Core.Path.{refl, ap, ◌∙◌}
use native.Mathlib.Omega.{arith}
use Rattle.hp_algebra.specs.Ring.{RingOf, IsRing, IsCommutative}
use Rattle.hp_mono.specs.Monomials as mono
use Rattle.hp_mono.specs.Monomials.{Monomial, IsMonomial, product}
use Rattle.hp_mono.proofs.MonomialLaws.{product_assoc, product_comm, product-monomial, product-one}
use Rattle.hp_sums.specs.FiniteSums.{HasValues}
use Rattle.hp_sums.proofs.SumSetting.{SumSetting}
use Rattle.hp_sums.proofs.Collected.{collect-IsSum, collect-keys, sum-values, nothing-IsSum}
use Rattle.hp_sums.proofs.SumLaws.{
  plus-IsSum,
  plus-keys,
  plus_comm,
  plus_assoc,
  plus_zero,
  negative-IsSum,
  negative-keys,
  plus_negative,
}
use Rattle.hp_sums.proofs.WeightedSums.{delta}
use Rattle.hp_sums.proofs.BilinearSums.{
  bilinear-IsSum,
  bilinear-keys,
  bilinear_assoc,
  bilinear_comm,
  bilinear-plus_left,
  bilinear-plus_right,
  one-bilinear,
}
use Rattle.hp_poly.specs.Polynomials.{
  Poly,
  IsPoly,
  poly_ring,
  poly_of,
  poly_plus,
  poly_neg,
  poly_times,
  term_poly,
  constant,
}
use Rattle.hp_poly.specs.PolySetting.{poly_setting}

module _ {F : Type 0} {ring : RingOf F} (laws : IsRing ring) (commutes : IsCommutative ring) where
  open ring use {zero as 0ₖ, one as 1ₖ, add, mul, IsValue}

  abbrev S : SumSetting Monomial F
  S = poly_setting laws commutes

  -- the terms that two monomials multiply to
  abbrev pub rule : Monomial → Monomial → List (Monomial × F)
  rule a b = (product a b, 1ₖ) ∷ []

  one_value : (c : F) (m : Monomial) → IsValue c → HasValues ring ((m, c) ∷ [])
  one_value c m v = All-cons (λ (t : Monomial × F). IsValue t.1) (m, c) [] v (All-nil (λ (t : Monomial × F). IsValue t.1))

  pub rule-values : (a b : Monomial) → HasValues ring (rule a b)
  rule-values a b = one_value 1ₖ (product a b) laws.one_value

  one_key : (P : Monomial → Type 0) (c : F) (m : Monomial) → P m → All (λ (t : Monomial × F). P t.0) ((m, c) ∷ [])
  one_key P c m h = All-cons (λ (t : Monomial × F). P t.0) (m, c) [] h (All-nil (λ (t : Monomial × F). P t.0))

  -- ---- what is a polynomial

  pub poly-values : (p : Poly F) → IsPoly ring p → HasValues ring p
  poly-values p f = sum-values S p f.is_sum

  pub poly_of-IsPoly : (ts : List (Monomial × F)) → HasValues ring ts → All (λ t. IsMonomial t.0) ts
      → IsPoly ring (poly_of ring ts)
  poly_of-IsPoly ts h m = record { is_sum = collect-IsSum S ts h; monomials = collect-keys S IsMonomial ts m }

  pub term_poly-IsPoly : (c : F) (m : Monomial) → IsValue c → IsMonomial m → IsPoly ring (term_poly ring c m)
  term_poly-IsPoly c m v h = poly_of-IsPoly ((m, c) ∷ []) (one_value c m v) (one_key IsMonomial c m h)

  nothing-IsPoly : IsPoly ring []
  nothing-IsPoly = record { is_sum = nothing-IsSum S; monomials = All-nil (λ (t : Monomial × F). IsMonomial t.0) }

  plus-IsPoly : (p q : Poly F) → IsPoly ring p → IsPoly ring q → IsPoly ring (poly_plus ring p q)
  plus-IsPoly p q f g = record {
    is_sum = plus-IsSum S p q f.is_sum g.is_sum;
    monomials = plus-keys S IsMonomial p q f.monomials g.monomials;
  }

  neg-IsPoly : (p : Poly F) → IsPoly ring p → IsPoly ring (poly_neg ring p)
  neg-IsPoly p f = record { is_sum = negative-IsSum S p f.is_sum; monomials = negative-keys S IsMonomial p f.monomials }

  -- a property of all products of their monomials passes to the product of two polynomials
  pub times-keys : (P : Monomial → Type 0) (p q : Poly F) → All (λ t. All (λ u. P (product t.0 u.0)) q) p
      → All (λ t. P t.0) (poly_times ring p q)
  times-keys P p q h = bilinear-keys S rule rule-values P p q (λ i t l j u m. one_key P 1ₖ _ (h i t l j u m))

  times-IsPoly : (p q : Poly F) → IsPoly ring p → IsPoly ring q → IsPoly ring (poly_times ring p q)
  times-IsPoly p q f g = record {
    is_sum = bilinear-IsSum S rule rule-values p q (poly-values p f) (poly-values q g);
    monomials = times-keys IsMonomial p q (λ i t l j u m. product-monomial _ _ (f.monomials i t l) (g.monomials j u m));
  }

  -- ---- the laws of products

  times_assoc : (p q r : Poly F) → IsPoly ring p → IsPoly ring q → IsPoly ring r
      → poly_times ring (poly_times ring p q) r ≡ poly_times ring p (poly_times ring q r)
  times_assoc p q r f g h =
      bilinear_assoc S rule rule-values (λ m. Unit {0})
      (λ b a c d _ _ _. ap (λ m. add (mul 1ₖ (add (mul 1ₖ (delta S b m)) 0ₖ)) 0ₖ) (product_assoc a c d)) p q r
      (poly-values p f) (poly-values q g) (poly-values r h) (λ i t l. tt) (λ i t l. tt) (λ i t l. tt)

  pub poly_commutes : IsCommutative (poly_ring ring)
  poly_commutes p q f g =
      bilinear_comm S rule rule-values (λ a c. ap (λ m. (m, 1ₖ) ∷ []) (product_comm a c)) p q
      (poly-values p f) (poly-values q g)

  one_times : (p : Poly F) → IsPoly ring p → poly_times ring (constant ring 1ₖ) p ≡ p
  one_times p f =
      one-bilinear S rule rule-values mono.one p f.is_sum (λ i t l. ap (λ m. (m, 1ₖ) ∷ []) (product-one _ (f.monomials i t l)))

  one-IsPoly : IsPoly ring (constant ring 1ₖ)
  one-IsPoly = term_poly-IsPoly 1ₖ mono.one laws.one_value refl

  no_terms : (p : Poly F) → IsTrue (length p == 0) ↔ (p ≡ [])
  no_terms [] = (λ _. refl, λ _. refl)
  no_terms (t ∷ p) = (λ e. absurd (omega (arith, eqb-true (length (t ∷ p)) 0 e)), λ e. eq-eqb _ 0 (ap length e))

  -- The polynomials are a ring.
  pub poly_is_ring : IsRing (poly_ring ring)
  poly_is_ring = record {
    zero_value = nothing-IsPoly;
    one_value = one-IsPoly;
    add_value = plus-IsPoly;
    neg_value = neg-IsPoly;
    mul_value = times-IsPoly;
    add_assoc = λ p q r f g h. plus_assoc S p q r f.is_sum g.is_sum h.is_sum;
    add_comm = λ p q f g. plus_comm S p q f.is_sum g.is_sum;
    add_zero = λ p f. plus_zero S p f.is_sum;
    add_neg = λ p f. plus_negative S p f.is_sum;
    mul_assoc = times_assoc;
    one_mul = one_times;
    mul_one = λ p f. poly_commutes p _ f one-IsPoly ∙ one_times p f;
    mul_add = λ p q r f g h. bilinear-plus_right S rule rule-values p q r (poly-values p f) g.is_sum h.is_sum;
    add_mul = λ p q r f g h. bilinear-plus_left S rule rule-values p q r f.is_sum g.is_sum (poly-values r h);
    zero_test = λ p f. no_terms p;
  }
