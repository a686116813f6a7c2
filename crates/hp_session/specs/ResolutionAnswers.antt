-- Answers about resolutions and about freeness of derivations.
use Rattle.std.specs.Prelude.{◌≡◌, ◌⊎◌, ℕ, ◌<◌, List, map, length, zip}
use Rattle.hp_lists.specs.Lists.{below}
use Rattle.hp_algebra.specs.Ring.{RingOf, Numbering}
use Rattle.hp_arr.specs.Arrangement.{Arrangement}
use Rattle.hp_complex.specs.Complexes.{map_at}
use Rattle.hp_linear.specs.Matrices.{Matrix}
use Rattle.hp_module.specs.Vectors.{Vector}
use Rattle.hp_render.specs.declared.answer.Answer.{Answer}
use Rattle.hp_render.specs.declared.answer.Answer.TheVariants.{Resolve, Free, NotFree}
use Rattle.hp_resolution.specs.Resolutions.{Resolution, IsMinimalResolution, IsResolution, degree_counts, row_degrees}
use Rattle.hp_saito.specs.Freeness.{IsCertifiedBasis, IsFreeArrangement}
use Rattle.hp_session.specs.DerivationAnswers.{AreKeptGenerators}

module _ {K : Type 0} (r : Resolution K) where
  -- the rows of a map, each behind its degree
  abbrev pub graded_rows : ℕ → List (ℕ × Vector K)
  graded_rows k = zip (row_degrees r k) (map_at r.maps k).rows

  -- a map: how many rows it has of each degree, and its rows
  abbrev pub resolved_map : ℕ → List ℕ × List (ℕ × Vector K)
  resolved_map k = (degree_counts (row_degrees r k), graded_rows k)

  -- the maps in order
  abbrev pub resolved_maps : List (List ℕ × List (ℕ × Vector K))
  resolved_maps = map resolved_map (below (length r.maps))

module _ {K : Type 0} (ring : RingOf K) (arr : Arrangement K) (mult : List ℕ) where
  -- a minimal resolution of the minimal generators
  abbrev pub IsResolutionAnswer : Answer K → Type 0
  IsResolutionAnswer a = (kept : List (Vector K)) × (r : Resolution K) × AreKeptGenerators ring arr mult kept
      × IsMinimalResolution ring r × IsResolution ring kept r × (a ≡ Resolve (resolved_maps r))

module _ {K : Type 0} (ring : RingOf K) (numbers : Numbering K) (arr : Arrangement K) (mult : List ℕ) where
  -- the vectors are a homogeneous basis, with their degrees and the certificate
  abbrev pub IsFreeWith : List (Vector K) → Answer K → Type 0
  IsFreeWith vs a = (degrees : List ℕ) × (point : List K) × (inverse : Matrix K)
      × IsCertifiedBasis ring numbers arr mult vs degrees point inverse × (a ≡ Free (zip degrees vs) point inverse.rows)

  -- there is no homogeneous basis, and the vectors are more than the dimension
  abbrev pub IsNotFreeWith : List (Vector K) → Answer K → Type 0
  IsNotFreeWith vs a = (¬ (IsFreeArrangement ring arr mult)) × (arr.dim < length vs) × (a ≡ NotFree (length vs))

  -- the minimal generators as a basis, or else how many they are
  abbrev pub IsFreenessAnswer : Answer K → Type 0
  IsFreenessAnswer a =
      (kept : List (Vector K)) × AreKeptGenerators ring arr mult kept × (IsFreeWith kept a ⊎ IsNotFreeWith kept a)
