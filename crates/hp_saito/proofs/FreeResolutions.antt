-- What a minimal resolution of D(A, m) tells of freeness: free exactly where the rows of its first map are as many as
-- the dimension; they are a basis then.
use Rattle.std.specs.Prelude.{◌≡◌, ◌≢◌, ℕ, ◌+◌, ◌<◌, ◌≤◌, List, [], length, remove, replicate, All, slice_index_or}
use Rattle.std.proofs.lemmas.List.{get_or-replicate, get_or_default, length-map}
use Rattle.std.proofs.lemmas.List.Elements.{All-weaker}
use Rattle.std.proofs.Math.Path.{transport}
use mathlib.Core.Path.{sym, ap, ◌∙◌, subst}
use native.Mathlib.Omega.{arith}
use Rattle.hp_algebra.specs.Ring.{RingOf, Numbering, IsField, IsNumbering}
use Rattle.hp_arr.specs.Arrangement.{Arrangement, IsArrangement, IsLeastPointOff}
use Rattle.hp_complex.specs.Complexes.{map_at}
use Rattle.hp_linear.specs.Matrices.{Matrix, IsInverse}
use Rattle.hp_mono.specs.Monomials.{Monomial, degree}
use Rattle.hp_poly.specs.Polynomials.{Poly}
use Rattle.hp_module.specs.Vectors.{Vector, GeneratesSet, IsGenerated}
use Rattle.hp_module.specs.FreeModules.{IsGraded}
use Rattle.hp_module.proofs.EntryTerms.{graded_each}
use Rattle.hp_graded.specs.MinimalGenerators.{IsIrredundant}
use Rattle.hp_der.specs.DerivationModules.{IsLogarithmic}
use Rattle.hp_resolution.specs.Resolutions.{Resolution, IsMinimalResolution, row_degrees}
use Rattle.hp_saito.specs.declared.answer.FreeAnswer.{FreeAnswer}
use Rattle.hp_saito.specs.declared.answer.FreeAnswer.TheVariants.{Free}
use Rattle.hp_saito.specs.Freeness.{AreMinimalGenerators, HaveDegrees, IsCertifiedBasis, IsFreeAnswer, IsFreeArrangement, row_values, values_matrix}
use Rattle.hp_saito.proofs.FreeBases.{HasGenerators, values-inverse}
use Rattle.hp_saito.proofs.FreeGenerators.{generators-basis, generators-not_free}

-- A minimal resolution whose first map generates D(A, m), for an arrangement over a field whose elements are numbered.
pub record Resolves {K : Type 0} (ring : RingOf K) (inverse : K → K) (numbers : Numbering K) (arr : Arrangement K)
    (mult : List ℕ) (r : Resolution K) : Type 0 where
  pub generators : HasGenerators ring inverse numbers arr mult (map_at r.maps 0).rows
  pub minimal : IsMinimalResolution ring r

-- the matrix of the values of an equal matrix at an equal point
pub values-same : {K : Type 0} (ring : RingOf K) {m n : Matrix (Poly K)} {x y : List K} {values : Matrix K}
    → values ≡ values_matrix ring m.cols x m.rows → m ≡ n → x ≡ y → values ≡ values_matrix ring n.cols y n.rows
values-same ring e f g = e ∙ (λ i. values_matrix ring (f i).cols (g i) (f i).rows)

-- the record, from where a function's bounds and arguments give its parts
pub resolves : {K : Type 0} {ring : RingOf K} {inverse : K
    → K} {numbers : Numbering K} {arr : Arrangement K} {mult : List ℕ}
    {r : Resolution K} → IsField ring inverse → IsNumbering ring numbers → IsArrangement ring numbers arr
    → GeneratesSet ring arr.dim (IsLogarithmic ring arr mult) (map_at r.maps 0).rows → IsMinimalResolution ring r
    → Resolves ring inverse numbers arr mult r
resolves field numbering lawful generates minimal = record {
  generators = record { field = field; numbering = numbering; lawful = lawful; generates = generates };
  minimal = minimal;
}

module _ {K : Type 0} {ring : RingOf K} {inverse : K
    → K} {numbers : Numbering K} {arr : Arrangement K} {mult : List ℕ}
    {r : Resolution K} (is : Resolves ring inverse numbers arr mult r) where
  abbrev first : Matrix (Poly K)
  first = map_at r.maps 0

  abbrev rows : List (Vector K)
  rows = first.rows

  abbrev D : ℕ → ℕ
  D i = slice_index_or (row_degrees r 0) i 0

  some_map : 1 ≤ length r.maps
  some_map = is.minimal.frame.resolution.some_map

  -- the first map has as many columns as the dimension
  columns : first.cols ≡ arr.dim
  columns =
      let res = is.minimal.frame.resolution in
      let some = res.some_row 0 (record { cols = 0; rows = [] }) some_map in
      sym (res.maps.matrices 0 (record { cols = 0; rows = [] }) some_map 0 [] some).0
      ∙ (is.generators.generates.members 0 [] some).in_variables.0

  graded : (i : ℕ) → i < length rows → IsGraded (replicate arr.dim 0) (D i) (slice_index_or rows i [])
  graded i l = subst (λ n. IsGraded (replicate n 0) (D i) (slice_index_or rows i [])) columns
      ((is.minimal.frame.resolution.homogeneous 0 some_map).homogeneous i l)

  least : IsIrredundant ring arr.dim rows
  least i l = subst (λ n. ¬ (IsGenerated ring n (remove rows i)
      (slice_index_or rows i []))) columns (is.minimal.minimal.no_redundant_row i l)

  -- the rows have the degrees of the resolution
  pub resolution-degrees : HaveDegrees ring (map_at r.maps 0).rows (row_degrees r 0)
  resolution-degrees = record {
    one_each = (is.minimal.frame.resolution.homogeneous 0 some_map).one_each;
    homogeneous = λ i l k d m.
        let v = slice_index_or rows i [] in
        let wide : length v ≡ arr.dim = (is.generators.generates.members i [] l).in_variables.0 in
        let none = get_or-replicate {A = ℕ} arr.dim k 0 0 (omega (arith, wide, m)) in
        subst (All (λ (t : Monomial × K). degree t.0 ≡ D i)) (get_or_default v k [] d m)
        (All-weaker (λ (t : Monomial × K). degree t.0 + slice_index_or (replicate arr.dim 0) k 0 ≡ D i)
        (λ t. degree t.0 ≡ D i) (λ t e. omega (arith, e, none)) (slice_index_or v k [])
        (graded_each (replicate arr.dim 0) (D i) v (graded i l) k m));
  }

  -- The rows are minimal generators.
  pub resolution-generators : AreMinimalGenerators ring arr mult (map_at r.maps 0).rows (row_degrees r 0)
  resolution-generators =
      let some : 0 < length r.degrees = omega (arith, is.minimal.frame.resolution.one_each, some_map) in record {
        generates = is.generators.generates;
        irredundant = least;
        have_degrees = resolution-degrees;
        low = is.minimal.frame.low 0 [] some;
        in_order = is.minimal.in_order 0 [] some;
      }

  -- Where they are not as many as the dimension the arrangement is not free, and they are more.
  pub resolution-not_free : length (map_at r.maps 0).rows ≢ arr.dim
      → (¬ (IsFreeArrangement ring arr mult)) × (arr.dim < length (map_at r.maps 0).rows)
  resolution-not_free =
      generators-not_free is.generators.field is.generators.numbering is.generators.lawful resolution-generators

  -- ---- the certificate

  module _ (x : List K) (off : IsLeastPointOff ring numbers arr x) (e : length (map_at r.maps 0).rows ≡ arr.dim)
      (values : Matrix K) (are : values ≡ values_matrix ring (map_at r.maps 0).cols x (map_at r.maps 0).rows) where
    same-values : values ≡ values_matrix ring arr.dim x rows
    same-values = are ∙ ap (λ n. values_matrix ring n x rows) columns

    pub values-square : length values.rows ≡ values.cols
    values-square =
        ap (λ m. length m.rows) same-values ∙ length-map rows (row_values ring x) ∙ e
        ∙ sym (ap (λ m. m.cols) same-values)

    -- The matrix of the values has an inverse, which is the certificate.
    pub some-inverse : ((n : Matrix K) → IsInverse ring values n → ⊥) → ⊥
    some-inverse none =
        let i = values-inverse is.generators x off e in
        none i.0 (subst (λ m. IsInverse ring m i.0) (sym same-values) i.1)

    certified : (n : Matrix K) → IsInverse ring values n
        → IsCertifiedBasis ring numbers arr mult (map_at r.maps 0).rows (row_degrees r 0) x n
    certified n i = record {
      is_basis =
          generators-basis is.generators.field is.generators.numbering is.generators.lawful resolution-generators e;
      have_degrees = resolution-degrees;
      least_point = off;
      certificate = subst (λ m. IsInverse ring m n) same-values i;
    }

    -- the answer with the rows as the basis is right
    pub free-answer : (basis : List (Vector K)) (degrees : List ℕ) (n : Matrix K) → basis ≡ (map_at r.maps 0).rows
        → degrees ≡ row_degrees r 0 → IsInverse ring values n → (a : FreeAnswer K) → a ≡ Free basis degrees x n
        → IsFreeAnswer ring numbers arr mult r a
    free-answer basis degrees n f g i a p =
        subst (IsFreeAnswer ring numbers arr mult r) (sym p)
        (f, g, transport (λ k. IsCertifiedBasis ring numbers arr mult (sym f k) (sym g k) x n) (certified n i))
