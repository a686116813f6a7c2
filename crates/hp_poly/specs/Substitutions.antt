-- Substitution of polynomials for the variables.
use Rattle.std.specs.Prelude.{◌≡◌, ℕ, ◌+◌, ◌<◌, List, [], ◌∷◌, length, slice_index_or}
use Rattle.hp_algebra.specs.Ring.{RingOf}
use Rattle.hp_mono.specs.Monomials.{Monomial, variable, vars}
use Rattle.hp_sums.specs.FiniteSums.{linear}
use Rattle.hp_poly.specs.Polynomials.{Poly, IsPoly, constant, from_greatest, monomial_value, poly_plus, poly_ring, poly_times}

module _ {F : Type 0} (ring : RingOf F) where
  -- the product of the powers of the polynomials that stand for the variables
  abbrev pub image_of : List (Poly F) → Monomial → Poly F
  image_of xs m = monomial_value (poly_ring ring) xs m

  -- the polynomial with the polynomials of the list in place of x_1, x_2, ..
  abbrev pub substituted : List (Poly F) → Poly F → Poly F
  substituted xs p = linear from_greatest ring (image_of xs) p

  -- A map of polynomials that keeps sums, products and constants.
  pub record IsPolyMap (f : Poly F → Poly F) : Type 0 where
    pub value : (p : Poly F) → IsPoly ring p → IsPoly ring (f p)
    pub zero : f [] ≡ []
    pub plus : (p q : Poly F) → IsPoly ring p → IsPoly ring q → f (poly_plus ring p q) ≡ poly_plus ring (f p) (f q)
    pub times : (p q : Poly F) → IsPoly ring p → IsPoly ring q → f (poly_times ring p q) ≡ poly_times ring (f p) (f q)
    pub of_constant : (c : F) → ring.IsValue c → f (constant ring c) ≡ constant ring c

  -- A map that keeps the first term of each polynomial.
  abbrev pub KeepsFirst : (Poly F → Poly F) → Type 0
  KeepsFirst f = (t : Monomial × F) (p : Poly F) → IsPoly ring (t ∷ p) → (rest : Poly F) × (f (t ∷ p) ≡ t ∷ rest)

  -- each polynomial is the image of one
  abbrev pub IsOnto : (Poly F → Poly F) → Type 0
  IsOnto f = (p : Poly F) → IsPoly ring p → (q : Poly F) × IsPoly ring q × (f q ≡ p)

  -- different polynomials have different images
  abbrev pub IsOneToOne : (Poly F → Poly F) → Type 0
  IsOneToOne f = (p q : Poly F) → IsPoly ring p → IsPoly ring q → f p ≡ f q → p ≡ q

  -- A polynomial for each variable, which has this variable as its first term, with coefficient 1.
  pub record IsTriangular (xs : List (Poly F)) : Type 0 where
    pub long : length xs ≡ vars
    pub polys : (i : ℕ) → i < vars → IsPoly ring (slice_index_or xs i [])
    pub first : (i : ℕ) → i < vars → (rest : Poly F) × (slice_index_or xs i [] ≡ (variable (i + 1), ring.one) ∷ rest)
