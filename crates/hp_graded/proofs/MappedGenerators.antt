-- Lists that generate the same, and lists of which no vector can be left out, stay so under a map that is onto and one to
-- one.
use Rattle.std.specs.Prelude.{ℕ, ◌<◌, List, [], map, length, remove, All, slice_index_or}
use Rattle.std.proofs.lemmas.List.{get_or-map, length-map}
use mathlib.Core.Path.{subst}
use Rattle.hp_algebra.specs.Ring.{RingOf, IsRing, IsCommutative}
use Rattle.hp_lists.proofs.Members.{each-All}
use Rattle.hp_lists.proofs.Removals.{remove-Contains, remove-map}
use Rattle.hp_poly.specs.Polynomials.{Poly}
use Rattle.hp_poly.specs.Substitutions.{IsOneToOne, IsOnto, IsPolyMap}
use Rattle.hp_module.specs.Vectors.{Vector, IsGenerated, IsVector}
use Rattle.hp_graded.specs.MinimalGenerators.{GenerateSame, IsIrredundant}
use Rattle.hp_graded.proofs.MappedVectors.{generated-mapped, mapped-iff}

module _ {F : Type 0} {ring : RingOf F} (laws : IsRing ring) (comm : IsCommutative ring) {f : Poly F → Poly F} (is : IsPolyMap ring f)
    (onto : IsOnto ring f) (width : ℕ) where
  abbrev Vectors : List (Vector F) → Type 0
  Vectors vs = All (IsVector ring width) vs

  pub same-mapped : (vs ws : List (Vector F)) → All (IsVector ring width) vs → All (IsVector ring width) ws
      → GenerateSame ring width vs ws → GenerateSame ring width (map (map f) vs) (map (map f) ws)
  same-mapped vs ws h k same v = (
    (λ g. let m = (generated-mapped laws comm is onto width vs v h).0 g in (generated-mapped laws comm is onto width ws v k).1 (m.0, (same m.0).0 m.1, m.2)),
    (λ g. let m = (generated-mapped laws comm is onto width ws v k).0 g in (generated-mapped laws comm is onto width vs v h).1 (m.0, (same m.0).1 m.1, m.2)),
  )

  pub irredundant-mapped : IsOneToOne ring f → (vs : List (Vector F)) → All (IsVector ring width) vs → IsIrredundant ring width vs
      → IsIrredundant ring width (map (map f) vs)
  irredundant-mapped apart vs h irredundant i l g =
      let inside : i < length vs = subst (λ n. i < n) (length-map vs (map f)) l in
      let others : Vectors (remove vs i) = each-All (IsVector ring width) (remove vs i) (λ v at.
      Rattle.std.proofs.lemmas.List.Elements.All-contains (IsVector ring width) vs v h (remove-Contains i vs v at)) in
      irredundant i inside ((mapped-iff laws comm is onto apart width (remove vs i) (slice_index_or vs i []) others (h i [] inside)).1
      (subst (λ w. IsGenerated ring width (map (map f) (remove vs i)) w) (get_or-map (map f) vs i [] [] inside)
      (subst (λ ws. IsGenerated ring width ws (slice_index_or (map (map f) vs) i [])) (remove-map (map f) i vs) g)))
