-- The kept members of a basis that a map carries, carried, are the kept members of the basis that it is carried to.
use Rattle.std.specs.Prelude.{ℕ, List, [], ◌∷◌, ◌++◌, map, All}
use Rattle.std.proofs.lemmas.List.Elements.{All-cons, All-head, All-nil, All-tail}
use mathlib.Core.Logic.{inl, inr}
use mathlib.Core.Path.{sym, subst}
use Rattle.hp_algebra.specs.Ring.{RingOf, IsField}
use Rattle.hp_poly.specs.Polynomials.{Poly}
use Rattle.hp_module.specs.Vectors.{Vector, IsKept, IsKeptAfter, IsVector}
use Rattle.hp_module.specs.ReducedBases.{Basis}
use Rattle.hp_graded.specs.MinimalGenerators.{GenerateSame, IsIrredundant}
use Rattle.hp_graded.proofs.MappedGenerators.{irredundant-mapped, same-mapped}
use Rattle.hp_graded.proofs.MappedKept.{kept-mapped}
use Rattle.hp_der.specs.CarriedBases.{IsCarried}

-- what holds of all vectors of a list holds of those that are kept
kept-all : {F : Type 0} (ring : RingOf F) (width : ℕ) (P : Vector F → Type 0) (before vs kept : List (Vector F)) → All P vs
    → IsKeptAfter ring width before vs kept → All P kept
kept-all ring width P before [] kept h k = subst (All P) (sym k) (All-nil P)
kept-all ring width P before (v ∷ vs) kept h k = elim k [
  | inl p ↦ kept-all ring width P (before ++ v ∷ []) vs kept (All-tail P v vs h) p.1
  | inr p ↦ subst (All P) (sym p.1.1) (All-cons P v p.1.0 (All-head P v vs h) (kept-all ring width P (before ++ v ∷ []) vs p.1.0 (All-tail P v vs h) p.1.2))
]

module _ {F : Type 0} {ring : RingOf F} {inverse : F → F} (field : IsField ring inverse) {f : Poly F → Poly F} {b : Basis F}
    (is : IsCarried ring f b) (kept : List (Vector F)) (keeps : IsKept ring b.width b.members kept) where
  vectors : All (IsVector ring b.width) kept
  vectors = kept-all ring b.width (IsVector ring b.width) [] b.members kept is.vectors keeps

  pub carried-kept : IsKept ring b.width (map (map f) b.members) (map (map f) kept)
  carried-kept = kept-mapped field.is_ring field.commutes is.is_map is.onto is.apart b.width b.members kept is.vectors keeps

  pub carried-same : GenerateSame ring b.width b.members kept → GenerateSame ring b.width (map (map f) b.members) (map (map f) kept)
  carried-same same = same-mapped field.is_ring field.commutes is.is_map is.onto b.width b.members kept is.vectors vectors same

  pub carried-irredundant : IsIrredundant ring b.width kept → IsIrredundant ring b.width (map (map f) kept)
  carried-irredundant no_more = irredundant-mapped field.is_ring field.commutes is.is_map is.onto b.width is.apart kept vectors no_more
