-- What is known of the basis of D(A, m), and of the minimal generators that it has: a minimal resolution that was made of a
-- frame of it resolves them. The Betti numbers, map by map.
use Rattle.std.proofs.Common.{◌≡◌, ℕ, ◌<◌, ◌≤◌, List, [], length, map, slice_index_or, ap, sym, ◌∙◌, subst, arith}
use Rattle.std.proofs.Math.Path.{transport}
use Rattle.std.proofs.lemmas.List.{get_or-map, length-map}
use Rattle.hp_algebra.specs.Ring.{RingOf, Numbering, IsField, IsNumbering}
use Rattle.hp_arr.specs.Arrangement.{Arrangement, IsArrangement}
use Rattle.hp_complex.specs.Complexes.{map_at}
use Rattle.hp_der.specs.BasisSettings.{HaveDegrees}
use Rattle.hp_der.specs.DerivationModules.{IsLogarithmic}
use Rattle.hp_graded.specs.MinimalGenerators.{GenerateSame, IsIrredundant}
use Rattle.hp_minres.specs.Minimised.{HasKeptRows}
use Rattle.hp_module.specs.ReducedBases.{Basis}
use Rattle.hp_module.specs.Vectors.{Vector, GeneratesSet, IsKept}
use Rattle.hp_resolution.specs.Resolutions.{Resolution, IsResolution, degree_counts}
use Rattle.hp_saito.specs.Freeness.{AreMinimalGenerators, vector_degrees}
use Rattle.hp_saito.proofs.LogarithmicBases.{IsLogarithmicBasis, logarithmic-minimal}
use Rattle.hp_session.specs.DerivationAnswers.{IsDerivationBasis}

-- the record of what is known of the basis, from its parts
pub logarithmic-basis : {K : Type 0} {ring : RingOf K} {inverse : K → K} {numbers : Numbering K} {arr : Arrangement K}
    {mult : List ℕ} (b : Basis K) → IsField ring inverse → IsNumbering ring numbers → IsArrangement ring numbers arr
    → b.width ≡ arr.dim → IsDerivationBasis ring arr mult b.members
    → GeneratesSet ring arr.dim (IsLogarithmic ring arr mult) b.members → HaveDegrees ring b.members
    → IsLogarithmicBasis ring inverse numbers arr mult b
logarithmic-basis b field numbering lawful width reduced generates degrees = record {
  field = field;
  numbering = numbering;
  lawful = lawful;
  width = width;
  reduced = reduced;
  generates = generates;
  degrees = degrees;
}

-- the kept members are minimal generators
pub kept-minimal : {K : Type 0} {ring : RingOf K} {inverse : K → K} {numbers : Numbering K} {arr : Arrangement K}
    {mult : List ℕ} {b : Basis K} (kept vs : List (Vector K)) → IsLogarithmicBasis ring inverse numbers arr mult b
    → IsKept ring b.width b.members kept → GenerateSame ring b.width b.members kept → IsIrredundant ring b.width kept
    → vs ≡ kept → AreMinimalGenerators ring arr mult vs (vector_degrees ring vs)
kept-minimal {ring = ring} {arr = arr} {mult = mult} kept vs is are same irredundant e =
    transport (λ i. AreMinimalGenerators ring arr mult (sym e i) (vector_degrees ring (sym e i)))
    (logarithmic-minimal is kept are same irredundant)

module _ {K : Type 0} {ring : RingOf K} {arr : Arrangement K} {mult : List ℕ} {vs : List (Vector K)} (f r : Resolution K)
    (generates : GeneratesSet ring arr.dim (IsLogarithmic ring arr mult) vs) (is : IsResolution ring vs f) where
  -- the first map has as many columns as the dimension
  columns : (map_at f.maps 0).cols ≡ arr.dim
  columns =
      let some = is.some_row 0 (record { cols = 0; rows = [] }) is.some_map in
      let first : slice_index_or (map_at f.maps 0).rows 0 [] ≡ slice_index_or vs 0 [] = ap (λ rows. slice_index_or rows 0 []) is.first in
      sym (is.maps.matrices 0 (record { cols = 0; rows = [] }) is.some_map 0 [] some).0 ∙ ap (λ (v : Vector K). length v) first
      ∙ (generates.members 0 [] (subst (λ (rows : List (Vector K)). 1 ≤ length rows) is.first some)).in_variables.0

  pub kept-resolution : HasKeptRows ring f r → IsKept ring arr.dim vs (map_at r.maps 0).rows
  kept-resolution has = transport (λ i. IsKept ring (columns i) (is.first i) (map_at r.maps 0).rows) has.kept

-- the numbers of a map among the Betti numbers, where each list of these is in a container
pub numbers-of_map : {N : Type 0} (items : N → List ℕ) (ns : List N) (degrees : List (List ℕ)) (k : ℕ) (n : N)
    → map items ns ≡ map degree_counts degrees → k < length degrees → n ≡ slice_index_or ns k n
    → items n ≡ degree_counts (slice_index_or degrees k [])
numbers-of_map items ns degrees k n all inside is =
    let many : length ns ≡ length degrees = sym (length-map ns items) ∙ ap length all ∙ length-map degrees degree_counts in
    ap items is ∙ sym (get_or-map items ns k n [] (omega (arith, inside, many))) ∙ ap (λ xs. slice_index_or xs k []) all
    ∙ get_or-map degree_counts degrees k [] [] inside
