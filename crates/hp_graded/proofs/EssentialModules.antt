-- The submodule that vectors in chosen variables generate, and its image under a substitution in essential coordinates: they
-- have the same leads, and the reduced basis of one gives that of the other by the substitution alone.
use Rattle.std.specs.Prelude.{◌↔◌, ℕ, ◌<◌, Bool, List, [], map, length, All, slice_index_or}
use Rattle.std.specs.Ordering.{nat_cmp, ordering_then}
use Rattle.std.specs.Cmp.{nat_cmp_total, tied_itself}
use Rattle.std.proofs.lemmas.List.Elements.{All-contains}
use mathlib.Core.Path.{ap, ◌∙◌}
use Rattle.hp_algebra.specs.Ring.{IsRing, IsCommutative}
use Rattle.hp_mono.specs.declared.term.Term.{Term}
use Rattle.hp_mono.specs.TermOrders.{IsTermWithin}
use Rattle.hp_poly.specs.Polynomials.{Poly, IsPoly, from_greatest}
use Rattle.hp_poly.specs.Substitutions.{substituted}
use Rattle.hp_module.specs.Vectors.{Vector, IsVector, IsGenerated, IsHomogeneousVector}
use Rattle.hp_module.specs.FreeModules.{FreeModule, IsFreeModule, IsIn, terms}
use Rattle.hp_module.specs.Leads.{IsLeastLead, IsReducedBasis}
use Rattle.hp_module.specs.ElimOrders.{block, elimination_order}
use Rattle.hp_module.proofs.LeastLeads.{lead-within}
use Rattle.hp_module.proofs.Symbols.{generated-vector}
use Rattle.hp_module.proofs.VectorCoefficients.{at-term, within}
use Rattle.hp_graded.proofs.EssentialMaps.{IsEssential, essential-keeps, essential-map, essential-one_to_one, essential-onto, essential-polys, essential-triangular, essential-under}
use Rattle.hp_graded.proofs.KeptExponents.{IsInside}
use Rattle.hp_graded.proofs.KeptVariables.{least_inside}
use Rattle.hp_graded.proofs.MappedBases.{mapped-reduced}
use Rattle.hp_graded.proofs.MappedLeads.{IsByMonomials, least-same}
use Rattle.hp_graded.proofs.MappedVectors.{IsMapped, generated-mapped, mapped-iff, mapped-vector}
use Rattle.hp_graded.proofs.SubstitutedEntries.{mapped-homogeneous, substituted-over}

-- in the elimination orders the terms of a component are in the order of their monomials
pub elimination-by_monomials : (split : ℕ) → IsByMonomials (elimination_order split)
elimination-by_monomials split k a b ia ib l =
    (λ i. ordering_then (tied_itself nat_cmp_total (block split k) i) (ordering_then (from_greatest a b) (nat_cmp k k)))
    ∙ ap (λ r. ordering_then r (nat_cmp k k)) l

module _ {F : Type 0} {M : FreeModule F} (L : IsFreeModule M) (by : IsByMonomials M.cmp) {l : ℕ} {rows : List (List F)} {ks : List Bool}
    {xs : List (Poly F)} (es : IsEssential M.ring l rows ks xs) (gens : List (Vector F)) (vectors : All (IsVector M.ring M.width) gens)
    (inside : (i : ℕ) → i < length gens → All (λ t. IsInside ks t.0.mono) (terms (slice_index_or gens i []))) where
  open M use {ring, width, cmp}

  abbrev laws : IsRing ring
  laws = L.field.is_ring

  abbrev comm : IsCommutative ring
  comm = L.field.commutes

  abbrev f : Poly F → Poly F
  f p = substituted ring xs p

  abbrev N : Vector F → Type 0
  N v = IsGenerated ring width gens v

  abbrev N' : Vector F → Type 0
  N' v = IsGenerated ring width (map (map (substituted ring xs)) gens) v

  N-in : (v : Vector F) → N v → IsIn M v
  N-in v g = generated-vector laws comm width gens vectors v g

  images : (w : Vector F) → N' w ↔ IsMapped (substituted ring xs) N w
  images w = generated-mapped laws comm (essential-map L.field es) (essential-onto L.field es) width gens w vectors

  -- The two have the same least leads.
  pub essential-least : (t : Term) → IsLeastLead M.cmp (IsGenerated M.ring M.width gens) t
      ↔ IsLeastLead M.cmp (IsGenerated M.ring M.width (map (map (substituted M.ring xs)) gens)) t
  essential-least t = least-same L by (essential-map L.field es) (essential-keeps L.field es) N-in images t

  -- a vector is in the one exactly where its image is in the other
  pub essential-iff : (v : Vector F) → IsIn M v
      → IsGenerated M.ring M.width gens v ↔ IsGenerated M.ring M.width (map (map (substituted M.ring xs)) gens) (map (substituted M.ring xs) v)
  essential-iff v h = mapped-iff laws comm (essential-map L.field es) (essential-onto L.field es) (essential-one_to_one L.field es) width gens v vectors h

  leads-inside : (t : Term) → IsLeastLead cmp N t → IsTermWithin width t × IsInside ks t.mono
  leads-inside t h = (lead-within L N-in t h.lead, least_inside L gens vectors ks inside t h)

  -- The reduced basis of the first, substituted, is that of the second.
  pub essential-reduced : {G : List (Vector F)} → IsReducedBasis M.ring M.cmp (IsGenerated M.ring M.width gens) G
      → IsReducedBasis M.ring M.cmp (IsGenerated M.ring M.width (map (map (substituted M.ring xs)) gens)) (map (map (substituted M.ring xs)) G)
  essential-reduced {G} basis =
      mapped-reduced L by (essential-map L.field es) (essential-keeps L.field es) N-in images basis (λ v at s n.
      let h = N-in v (All-contains N G v basis.members at) in
      let hm = mapped-vector laws comm (essential-map L.field es) width v h in
      let ws = at-term laws comm width (map f v) (IsTermWithin width) s hm (within laws comm width (map f v) hm) n in
      substituted-over L by ks xs (essential-triangular L.field es) (essential-polys L.field es) (essential-under L.field es)
      (essential-keeps L.field es) leads-inside v s h ws n)

-- Degrees stay.
pub essential-degree : {F : Type 0} {M : FreeModule F} (L : IsFreeModule M) {l : ℕ} {rows : List (List F)} {ks : List Bool}
    {xs : List (Poly F)} → IsEssential M.ring l rows ks xs → (d : ℕ) (v : Vector F) → All (IsPoly M.ring) v → IsHomogeneousVector M.ring d v
    → IsHomogeneousVector M.ring d (map (substituted M.ring xs) v)
essential-degree L {l} {rows} {ks} {xs} es d v h g =
    mapped-homogeneous L.field ks xs (essential-triangular L.field es) (essential-polys L.field es) (essential-under L.field es) d v h g
