-- Freeness of the module of logarithmic derivations, and the certificate of a basis: by Saito, its values at a point
-- off the hyperplanes are an invertible matrix.
use Rattle.std.specs.Prelude.{◌≡◌, ℕ, ◌<◌, ◌≤◌, List, [], map, length, All, slice_index_or}
use Rattle.std.specs.List.Sorted.{IsNonDecreasing}
use Rattle.hp_algebra.specs.Ring.{RingOf, Numbering, greatest_weight_of}
use Rattle.hp_arr.specs.Arrangement.{Arrangement, IsLeastPointOff}
use Rattle.hp_complex.specs.Complexes.{map_at}
use Rattle.hp_linear.specs.Matrices.{Matrix, IsInverse}
use Rattle.hp_mono.specs.Monomials.{max_degree}
use Rattle.hp_poly.specs.Polynomials.{poly_ring, poly_value}
use Rattle.hp_module.specs.Vectors.{Vector, GeneratesSet, IsFree, IsHomogeneousBasis, IsHomogeneousVector}
use Rattle.hp_graded.specs.MinimalGenerators.{IsIrredundant}
use Rattle.hp_der.specs.DerivationModules.{IsLogarithmic}
use Rattle.hp_resolution.specs.Resolutions.{Resolution, row_degrees}
use Rattle.hp_saito.specs.declared.answer.FreeAnswer.{FreeAnswer}
use Rattle.hp_saito.specs.declared.answer.FreeAnswer.TheVariants.{Free, NotFree}

module _ {K : Type 0} (ring : RingOf K) where
  -- the values of the entries at a point
  abbrev pub row_values : List K → Vector K → List K
  row_values x v = map (poly_value ring x) v

  -- the matrix with the values of the vectors as its rows
  abbrev pub values_matrix : ℕ → List K → List (Vector K) → Matrix K
  values_matrix width x vs = record { cols = width; rows = map (row_values x) vs }

  -- a degree for each vector, of which it is homogeneous
  pub record HaveDegrees (vs : List (Vector K)) (degrees : List ℕ) : Type 0 where
    pub one_each : length degrees ≡ length vs
    pub homogeneous : (i : ℕ) → i < length vs
        → IsHomogeneousVector ring (slice_index_or degrees i 0) (slice_index_or vs i [])

  -- for each vector the greatest degree of its entries: of a homogeneous vector its degree, and of zero 0
  abbrev pub vector_degrees : List (Vector K) → List ℕ
  vector_degrees vs = map (greatest_weight_of (poly_ring ring)) vs

  -- an arrangement with multiplicities is free where D(A, m) has a homogeneous basis
  abbrev pub IsFreeArrangement : Arrangement K → List ℕ → Type 0
  IsFreeArrangement arr mult = IsFree ring arr.dim (IsLogarithmic ring arr mult)

  -- Minimal generators of D(A, m) with their degrees, which do not fall: homogeneous vectors that generate it, none of
  -- which the others generate.
  pub record AreMinimalGenerators (arr : Arrangement K) (mult : List ℕ) (vs : List (Vector K)) (degrees : List ℕ)
      : Type 0 where
    pub generates : GeneratesSet ring arr.dim (IsLogarithmic ring arr mult) vs
    pub irredundant : IsIrredundant ring arr.dim vs
    pub have_degrees : HaveDegrees vs degrees
    pub low : All (λ d. d ≤ max_degree) degrees
    pub in_order : IsNonDecreasing degrees

module _ {K : Type 0} (ring : RingOf K) (numbers : Numbering K) (arr : Arrangement K) (mult : List ℕ) where
  -- A homogeneous basis of D(A, m) with the degrees of its members, and its certificate: the least point off the
  -- hyperplanes, and the inverse of the matrix of the basis's values there.
  pub record IsCertifiedBasis (basis : List (Vector K)) (degrees : List ℕ) (point : List K) (inverse : Matrix K)
      : Type 0 where
    pub is_basis : IsHomogeneousBasis ring arr.dim (IsLogarithmic ring arr mult) basis
    pub have_degrees : HaveDegrees ring basis degrees
    pub least_point : IsLeastPointOff ring numbers arr point
    pub certificate : IsInverse ring (values_matrix ring arr.dim point basis) inverse

  -- What minimal generators of D(A, m) with these degrees tell of freeness. Free: they are a basis, and it has its
  -- certificate. Not free: they are more than the dimension.
  abbrev pub IsFreeAnswerOf : List (Vector K) → List ℕ → FreeAnswer K → Type 0
  IsFreeAnswerOf vs ds (Free basis degrees point inverse) =
      (basis ≡ vs) × (degrees ≡ ds) × IsCertifiedBasis basis degrees point inverse
  IsFreeAnswerOf vs ds (NotFree generators) =
      (¬ (IsFreeArrangement ring arr mult)) × (generators ≡ length vs) × (arr.dim < generators)

  -- what a minimal resolution of D(A, m) tells of freeness, by the rows of its first map
  abbrev pub IsFreeAnswer : Resolution K → FreeAnswer K → Type 0
  IsFreeAnswer r answer = IsFreeAnswerOf (map_at r.maps 0).rows (row_degrees r 0) answer
