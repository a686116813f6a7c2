-- Bases in essential coordinates, and what they stand for: polynomials are put for the variables.
use Rattle.std.specs.Prelude.{◌≡◌, ℕ, ◌≤◌, ◌==◌, if◌then◌else◌, List, [], ◌∷◌, map, length, All}
use Rattle.hp_algebra.specs.Ring.{RingOf}
use Rattle.hp_arr.specs.Arrangement.{Arrangement}
use Rattle.hp_poly.specs.Polynomials.{Poly, poly_degree}
use Rattle.hp_poly.specs.Substitutions.{IsOneToOne, IsOnto, IsPolyMap, substituted}
use Rattle.hp_module.specs.Vectors.{GeneratesSet, IsVector}
use Rattle.hp_module.specs.Derivations.{IsVectorInVariables}
use Rattle.hp_module.specs.Leads.{IsReducedBasis}
use Rattle.hp_module.specs.ElimOrders.{elimination_order}
use Rattle.hp_module.specs.ReducedBases.{Basis, IsBasis}
use Rattle.hp_graded.specs.EssentialRows.{essential_variables}
use Rattle.hp_der.specs.BasisSettings.{HaveDegrees}
use Rattle.hp_der.specs.DerivationModules.{IsLogarithmic}

module _ {F : Type 0} (ring : RingOf F) where
  -- the polynomial with these in place of the variables, and as it is where there are none
  abbrev pub carried : List (Poly F) → Poly F → Poly F
  carried [] p = p
  carried (x ∷ xs) p = substituted ring (x ∷ xs) p

  -- the basis with its members carried by a map of the polynomials
  abbrev pub carried_basis : (Poly F → Poly F) → Basis F → Basis F
  carried_basis f b = record { split = b.split; width = b.width; members = map (map f) b.members }

  -- A basis that a map of the polynomials carries to a basis. The map keeps sums and products, is onto and one to one.
  pub record IsCarried (f : Poly F → Poly F) (b : Basis F) : Type 0 where
    pub is_map : IsPolyMap ring f
    pub onto : IsOnto ring f
    pub apart : IsOneToOne ring f
    pub vectors : All (IsVector ring b.width) b.members
    pub degrees : HaveDegrees ring b.members
    pub basis : IsBasis ring (carried_basis f b)

  -- the polynomials for the variables are linear, and carry the basis to a basis
  pub record IsCarriedBy (xs : List (Poly F)) (b : Basis F) : Type 0 where
    pub linear : All (λ x. poly_degree ring x ≤ 1) xs
    pub carries : IsCarried (carried xs) b

  -- The basis, carried, is that of the logarithmic derivations.
  pub record CarriesDerivations (arr : Arrangement F) (mult : List ℕ) (f : Poly F → Poly F) (b : Basis F) : Type 0 where
    pub split : b.split ≡ 0
    pub width : b.width ≡ arr.dim
    pub reduced : IsReducedBasis ring (elimination_order 0) (IsLogarithmic ring arr mult) (map (map f) b.members)
    pub generates : GeneratesSet ring arr.dim (IsLogarithmic ring arr mult) (map (map f) b.members)
    pub variables : All (IsVectorInVariables ring arr.dim arr.dim) (map (map f) b.members)
    pub degrees : HaveDegrees ring (map (map f) b.members)

  -- the polynomials for the variables in essential coordinates: none where each of l columns has a pivot
  abbrev pub coordinates : ℕ → List ℕ → List (List F) → List (Poly F)
  coordinates l pivots rows = if length pivots == l then [] else essential_variables ring l pivots rows
