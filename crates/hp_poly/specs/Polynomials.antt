-- Polynomials over a field as finite sums of monomials.
use Rattle.std.specs.Prelude.{◌≡◌, ℕ, ◌==◌, max, List, [], ◌∷◌, map, length, All, zip, drop}
use Rattle.std.specs.declared.cmp.Ordering.{Ordering}
use Rattle.hp_lists.specs.Lists.{one_to}
use Rattle.hp_algebra.specs.Ring.{RingOf, power}
use Rattle.hp_sums.specs.FiniteSums.{IsSum, collect, plus, negative, bilinear, coefficient}
use Rattle.hp_mono.specs.Monomials as mono
use Rattle.hp_mono.specs.Monomials.{Monomial, IsMonomial, grevlex, variable, degree}

-- the greatest monomial in grevlex stands first
abbrev pub from_greatest : Monomial → Monomial → Ordering
from_greatest a b = grevlex b a

-- A polynomial is the list of its terms, the greatest monomial in grevlex first.
abbrev pub Poly : Type 0 → Type 0
Poly F = List (Monomial × F)

module _ {F : Type 0} (ring : RingOf F) where
  open ring use {zero as 0ₖ, one as 1ₖ, add, mul, is_zero, IsValue}

  -- The monomials fall strictly, and no coefficient is zero. So equal polynomials are equal lists.
  pub record IsPoly (p : Poly F) : Type 0 where
    pub is_sum : IsSum from_greatest ring p
    pub monomials : All (λ t. IsMonomial t.0) p

  -- the sum of any terms: equal monomials are added, and zeros left out
  abbrev pub poly_of : List (Monomial × F) → Poly F
  poly_of ts = collect from_greatest ring ts

  -- the coefficient of a monomial
  abbrev pub coefficient_of : Poly F → Monomial → F
  coefficient_of p m = coefficient from_greatest ring p m

  -- c times the monomial m
  abbrev pub term_poly : F → Monomial → Poly F
  term_poly c m = poly_of ((m, c) ∷ [])

  abbrev pub constant : F → Poly F
  constant c = term_poly c mono.one

  abbrev pub poly_plus : Poly F → Poly F → Poly F
  poly_plus = plus from_greatest ring

  abbrev pub poly_neg : Poly F → Poly F
  poly_neg = negative from_greatest ring

  abbrev pub poly_times : Poly F → Poly F → Poly F
  poly_times = bilinear from_greatest ring (λ a b. (mono.product a b, 1ₖ) ∷ [])

  -- the greatest degree of a monomial, and 0 where there is none
  abbrev pub poly_degree : Poly F → ℕ
  poly_degree [] = 0
  poly_degree (t ∷ ts) = max (degree t.0) (poly_degree ts)

  -- the weight of a polynomial is its degree
  abbrev pub poly_ring : RingOf (Poly F)
  poly_ring = record {
    IsValue = IsPoly;
    zero = [];
    one = constant 1ₖ;
    add = poly_plus;
    neg = poly_neg;
    mul = poly_times;
    is_zero = λ p. length p == 0;
    weight = poly_degree;
  }

  -- c m times each term
  abbrev pub multiple : F → Monomial → Poly F → Poly F
  multiple c m p = map (λ t. (mono.product m t.0, mul c t.1)) p

  -- only x_1, .., x_l occur
  abbrev pub IsInVariables : ℕ → Poly F → Type 0
  IsInVariables l p = IsPoly p × All (λ t. All (λ e. e ≡ 0) (drop l t.0)) p

  -- every monomial has degree d. So zero is homogeneous of every degree
  abbrev pub IsHomogeneous : ℕ → Poly F → Type 0
  IsHomogeneous d p = All (λ t. degree t.0 ≡ d) p

  -- the terms c_i x_i, and their sum
  abbrev pub form_terms : List F → List (Monomial × F)
  form_terms cs = map (λ t. (variable t.0, t.1)) (zip (one_to (length cs)) cs)

  abbrev pub linear_form : List F → Poly F
  linear_form cs = poly_of (form_terms cs)

  abbrev pub form_power : List F → ℕ → Poly F
  form_power cs m = power poly_ring (linear_form cs) m

  -- the value of a monomial, and of a polynomial, at a point
  abbrev pub monomial_value : List F → Monomial → F
  monomial_value [] m = 1ₖ
  monomial_value (x ∷ xs) [] = 1ₖ
  monomial_value (x ∷ xs) (e ∷ m) = mul (power ring x e) (monomial_value xs m)

  abbrev pub poly_value : List F → Poly F → F
  poly_value xs [] = 0ₖ
  poly_value xs (t ∷ ts) = add (mul t.1 (monomial_value xs t.0)) (poly_value xs ts)
