-- Polynomials in the first l variables: sums, negatives, products, and the step of elimination.
use Rattle.std.specs.Prelude.{◌≡◌, ℕ, zero, suc, ◌+◌, [], ◌∷◌, List, All, drop}
use Rattle.std.proofs.lemmas.List.Elements.{All-nil, All-cons, All-head, All-tail}
use native.Mathlib.Omega.{arith}
use Rattle.hp_algebra.specs.Ring.{RingOf, IsRing, IsCommutative}
use Rattle.hp_mono.specs.Monomials.{Monomial, product}
use Rattle.hp_poly.specs.Polynomials.{Poly, IsInVariables, poly_ring, poly_plus, poly_neg, poly_times}
use Rattle.hp_poly.specs.PolyRing.{poly_is_ring, times-keys}
use Rattle.hp_poly.specs.PolySetting.{poly_setting}
use Rattle.hp_sums.proofs.SumLaws.{plus-keys, negative-keys}
use Rattle.hp_minres.specs.Grids.{skip, eliminated}

abbrev Zeros : List ℕ → Type 0
Zeros m = All (λ e. e ≡ 0) m

zeros_product : (a b : List ℕ) → Zeros a → Zeros b → Zeros (product a b)
zeros_product [] b f g = All-nil (λ e. e ≡ 0)
zeros_product (x ∷ a) [] f g = All-nil (λ e. e ≡ 0)
zeros_product (x ∷ a) (y ∷ b) f g =
    let p = All-head (λ e. e ≡ 0) x a f in
    let q = All-head (λ e. e ≡ 0) y b g in
    All-cons (λ e. e ≡ 0) (x + y) (product a b) (omega (arith, p, q))
    (zeros_product a b (All-tail (λ e. e ≡ 0) x a f) (All-tail (λ e. e ≡ 0) y b g))

variables_product : (l : ℕ) (a b : Monomial) → Zeros (drop l a) → Zeros (drop l b) → Zeros (drop l (product a b))
variables_product zero a b f g = zeros_product a b f g
variables_product (suc l) [] b f g = f
variables_product (suc l) (x ∷ a) [] f g = g
variables_product (suc l) (x ∷ a) (y ∷ b) f g = variables_product l a b f g

module _ {F : Type 0} {ring : RingOf F} (laws : IsRing ring) (comm : IsCommutative ring) (l : ℕ) where
  abbrev P : IsRing (poly_ring ring)
  P = poly_is_ring laws comm

  pub variables_plus : (p q : Poly F) → IsInVariables ring l p → IsInVariables ring l q → IsInVariables ring l (poly_plus ring p q)
  variables_plus p q f g = (P.add_value p q f.0 g.0, plus-keys (poly_setting laws comm) (λ m. Zeros (drop l m)) p q f.1 g.1)

  pub variables_negative : (p : Poly F) → IsInVariables ring l p → IsInVariables ring l (poly_neg ring p)
  variables_negative p f = (P.neg_value p f.0, negative-keys (poly_setting laws comm) (λ m. Zeros (drop l m)) p f.1)

  pub variables_times : (p q : Poly F) → IsInVariables ring l p → IsInVariables ring l q → IsInVariables ring l (poly_times ring p q)
  variables_times p q f g = (
    P.mul_value p q f.0 g.0,
    times-keys laws comm (λ m. Zeros (drop l m)) p q (λ i t a j u b. variables_product l _ _ (f.1 i t a) (g.1 j u b)),
  )

  pub eliminated_variables : (A : ℕ → ℕ → Poly F) (r c : ℕ) (w : Poly F) → ((i j : ℕ) → IsInVariables ring l (A i j))
      → IsInVariables ring l w → (i j : ℕ) → IsInVariables ring l (eliminated (poly_ring ring) A r c w i j)
  eliminated_variables A r c w h hw i j =
      variables_plus (A (skip r i) (skip c j)) _ (h (skip r i) (skip c j))
      (variables_negative _ (variables_times (A (skip r i) c) _ (h (skip r i) c) (variables_times w (A r (skip c j)) hw (h r (skip c j)))))
