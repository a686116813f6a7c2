-- The kept vectors of a list, mapped, are the kept vectors of the mapped list, where the map is onto and one to one.
use Rattle.std.specs.Prelude.{ℕ, List, [], ◌∷◌, ◌++◌, map, All}
use Rattle.std.proofs.lemmas.List.{map-append}
use Rattle.std.proofs.lemmas.List.Elements.{All-append, All-cons, All-head, All-nil, All-tail}
use mathlib.Core.Logic.{inl, inr}
use mathlib.Core.Path.{ap, subst}
use Rattle.hp_algebra.specs.Ring.{RingOf, IsRing, IsCommutative}
use Rattle.hp_poly.specs.Polynomials.{Poly}
use Rattle.hp_poly.specs.Substitutions.{IsOneToOne, IsOnto, IsPolyMap}
use Rattle.hp_module.specs.Vectors.{Vector, IsKept, IsKeptAfter, IsVector}
use Rattle.hp_graded.proofs.MappedVectors.{mapped-iff}

module _ {F : Type 0} {ring : RingOf F} (laws : IsRing ring) (comm : IsCommutative ring) {f : Poly F → Poly F} (is : IsPolyMap ring f)
    (onto : IsOnto ring f) (apart : IsOneToOne ring f) (width : ℕ) where
  abbrev Vectors : List (Vector F) → Type 0
  Vectors vs = All (IsVector ring width) vs

  kept-after : (before vs kept : List (Vector F)) → Vectors before → Vectors vs → IsKeptAfter ring width before vs kept
      → IsKeptAfter ring width (map (map f) before) (map (map f) vs) (map (map f) kept)
  kept-after before [] kept hb hv k = ap (map (map f)) k
  kept-after before (v ∷ vs) kept hb hv k =
      let h = All-head (IsVector ring width) v vs hv in
      let hs = All-tail (IsVector ring width) v vs hv in
      let more : Vectors (before ++ v ∷ []) = All-append (IsVector ring width) before (v ∷ []) hb (All-cons (IsVector ring width) v [] h (All-nil (IsVector ring width))) in
      let iff = mapped-iff laws comm is onto apart width before v hb h in
      let next : (rest : List (Vector F)) → IsKeptAfter ring width (before ++ v ∷ []) vs rest
      → IsKeptAfter ring width (map (map f) before ++ map f v ∷ []) (map (map f) vs) (map (map f) rest) =
      λ rest r. subst (λ us. IsKeptAfter ring width us (map (map f) vs) (map (map f) rest)) (map-append (map f) before (v ∷ [])) (kept-after (before ++ v ∷ []) vs rest more hs r) in
      elim k [
        | inl p ↦ inl (iff.0 p.0, next kept p.1)
        | inr p ↦ inr ((λ g. p.0 (iff.1 g)), (map (map f) p.1.0, ap (map (map f)) p.1.1, next p.1.0 p.1.2))
      ]

  pub kept-mapped : (vs kept : List (Vector F)) → All (IsVector ring width) vs → IsKept ring width vs kept
      → IsKept ring width (map (map f) vs) (map (map f) kept)
  kept-mapped vs kept h k = kept-after [] vs kept (All-nil (IsVector ring width)) h k
