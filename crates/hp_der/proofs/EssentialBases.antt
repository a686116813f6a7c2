-- The basis of the larger module from the basis in essential coordinates: it is substituted, its stops are the same, and
-- its second blocks are the substituted second blocks.
use Rattle.std.specs.Prelude.{◌≡◌, ◌↔◌, ◌&&◌, ℕ, zero, suc, ◌+◌, ◌<◌, ◌≤◌, ◌==◌, Bool, true, false, cond, List, [], ◌∷◌, filter, map, drop, take, length, All}
use Rattle.std.proofs.Common.{ne_eqb}
use Rattle.std.proofs.lemmas.List.Elements.{All-head, All-map, All-tail}
use mathlib.Core.Path.{refl, sym, ap, ◌∙◌, subst}
use native.Mathlib.Omega.{arith}
use Rattle.hp_algebra.specs.Ring.{RingOf, IsField}
use Rattle.hp_linear.specs.Matrices.{Matrix, IsEchelonForm}
use Rattle.hp_arr.specs.Arrangement.{Arrangement}
use Rattle.hp_poly.specs.Polynomials.{Poly, IsPoly}
use Rattle.hp_poly.specs.Substitutions.{IsPolyMap, KeepsFirst, substituted}
use Rattle.hp_module.specs.Vectors.{Vector, IsGenerated, IsHomogeneousVector}
use Rattle.hp_module.specs.FreeModules.{FreeModule, IsFreeModule}
use Rattle.hp_module.specs.Leads.{IsLeastLead, IsReducedBasis}
use Rattle.hp_module.specs.ElimOrders.{elimination_order}
use Rattle.hp_module.specs.EliminationLaws.{elimination-is_order}
use Rattle.hp_module.specs.FallingTerms.{free_module}
use Rattle.hp_groebner.specs.LimitRules.{IsStop, NeverStops, most_degree}
use Rattle.hp_groebner.specs.declared.limits.Limits.{Limits}
use Rattle.hp_groebner.specs.declared.limits.Stop.{Stop}
use Rattle.hp_graded.specs.EssentialRows.{essential_variables}
use Rattle.hp_graded.proofs.EssentialMaps.{essential-keeps, essential-map}
use Rattle.hp_graded.proofs.EssentialModules.{elimination-by_monomials, essential-degree, essential-least, essential-reduced}
use Rattle.hp_der.specs.BasisSettings.{HaveDegrees}
use Rattle.hp_der.specs.DerivationModules.{IsExtended, extended_width, has_zero_block, second_blocks}
use Rattle.hp_der.specs.EssentialGenerators.{essential_generators}
use Rattle.hp_der.proofs.EqualStops.{same-never, same-stop}
use Rattle.hp_der.proofs.EssentialGenerators.{arrangement-essential, essential-generators, essential-inside, essential-vectors}
use Rattle.hp_der.proofs.ExtendedGenerators.{IsMultiArrangement}

-- ---- second blocks

module _ {K : Type 0} {ring : RingOf K} {f : Poly K → Poly K} (is : IsPolyMap ring f) (keeps : KeepsFirst ring f) where
  same-empty : (p : Poly K) → IsPoly ring p → (length (f p) == 0) ≡ (length p == 0)
  same-empty [] h = ap (λ q. length q == 0) is.zero
  same-empty (t ∷ p) h =
      let k = keeps t p h in
      ap (λ q. length q == 0) k.1 ∙ ne_eqb (length (t ∷ k.0)) 0 (λ e. absurd (omega (arith, e)))
      ∙ sym (ne_eqb (length (t ∷ p)) 0 (λ e. absurd (omega (arith, e))))

  same-zeros : (n : ℕ) (v : Vector K) → All (IsPoly ring) v → has_zero_block n (map f v) ≡ has_zero_block n v
  same-zeros zero v h = zero_block v
    where
      zero_block : (v : Vector K) → has_zero_block 0 (map f v) ≡ has_zero_block 0 v
      zero_block [] = refl
      zero_block (p ∷ v) = refl
  same-zeros (suc n) [] h = refl
  same-zeros (suc n) (p ∷ v) h =
      let e = same-empty p (All-head (IsPoly ring) p v h) in
      let r = same-zeros n v (All-tail (IsPoly ring) p v h) in
      λ i. (e i) && (r i)

  drop-mapped : (n : ℕ) (v : Vector K) → drop n (map f v) ≡ map f (drop n v)
  drop-mapped zero [] = refl
  drop-mapped zero (p ∷ v) = refl
  drop-mapped (suc n) [] = refl
  drop-mapped (suc n) (p ∷ v) = drop-mapped n v

  -- The second blocks of the mapped vectors are the mapped second blocks.
  pub blocks-mapped : (n : ℕ) (vs : List (Vector K)) → All (λ v. All (IsPoly ring) v) vs
      → second_blocks n (map (map f) vs) ≡ map (map f) (second_blocks n vs)
  blocks-mapped n [] h = refl
  blocks-mapped n (v ∷ vs) h =
      let hv = All-head (λ w. All (IsPoly ring) w) v vs h in
      let r = blocks-mapped n vs (All-tail (λ w. All (IsPoly ring) w) v vs h) in
      pick (has_zero_block n v) (same-zeros n v hv) r
    where
      pick : (b : Bool) → has_zero_block n (map f v) ≡ b → second_blocks n (map (map f) vs) ≡ map (map f) (second_blocks n vs)
          → map (drop n) (cond (has_zero_block n (map f v)) (map f v ∷ filter (has_zero_block n) (map (map f) vs)) (filter (has_zero_block n) (map (map f) vs)))
          ≡ map (map f) (map (drop n) (cond b (v ∷ filter (has_zero_block n) vs) (filter (has_zero_block n) vs)))
      pick true e r =
          ap (λ c. map (drop n) (cond c (map f v ∷ filter (has_zero_block n) (map (map f) vs)) (filter (has_zero_block n) (map (map f) vs)))) e
          ∙ (λ i. drop-mapped n v i ∷ r i)
      pick false e r =
          ap (λ c. map (drop n) (cond c (map f v ∷ filter (has_zero_block n) (map (map f) vs)) (filter (has_zero_block n) (map (map f) vs)))) e ∙ r

-- ---- the larger module

module _ {K : Type 0} {ring : RingOf K} {inverse : K → K} (field : IsField ring inverse) (arr : Arrangement K) (mult : List ℕ)
    (is : IsMultiArrangement ring arr mult) {e : Matrix K} {pivots : List ℕ}
    (form : IsEchelonForm ring (record { cols = arr.dim; rows = arr.forms }) e pivots) where
  abbrev n : ℕ
  n = length arr.forms

  abbrev width : ℕ
  width = extended_width ring arr mult

  abbrev M : FreeModule K
  M = free_module ring inverse width [] (elimination_order n)

  abbrev L : IsFreeModule M
  L = record { field = field; order = elimination-is_order n width }

  abbrev xs : List (Poly K)
  xs = essential_variables ring arr.dim pivots e.rows

  abbrev gens : List (Vector K)
  gens = essential_generators ring arr mult pivots

  -- what the generators in essential coordinates generate
  abbrev pub IsEssentialMember : Vector K → Type 0
  IsEssentialMember v = IsGenerated ring (extended_width ring arr mult) (essential_generators ring arr mult pivots) v

  same-least : (t : Rattle.hp_mono.specs.declared.term.Term.Term) → IsLeastLead (elimination_order n) IsEssentialMember t ↔ IsLeastLead (elimination_order n) (IsExtended ring arr mult) t
  same-least t =
      subst (λ gs. IsLeastLead (elimination_order n) IsEssentialMember t ↔ IsLeastLead (elimination_order n) (IsGenerated ring width gs) t)
      (essential-generators field arr mult is form)
      (essential-least L (elimination-by_monomials n) (arrangement-essential field arr mult is form) gens (essential-vectors field arr mult is form)
      (essential-inside field arr mult is form) t)

  -- The reduced basis in essential coordinates, substituted, is that of the larger module.
  pub extended-reduced : {G : List (Vector K)} → IsReducedBasis ring (elimination_order (length arr.forms)) IsEssentialMember G
      → IsReducedBasis ring (elimination_order (length arr.forms)) (IsExtended ring arr mult)
      (map (map (substituted ring (essential_variables ring arr.dim pivots e.rows))) G)
  extended-reduced {G} basis =
      subst (λ gs. IsReducedBasis ring (elimination_order n) (IsGenerated ring width gs) (map (map (substituted ring xs)) G))
      (essential-generators field arr mult is form)
      (essential-reduced L (elimination-by_monomials n) (arrangement-essential field arr mult is form) gens (essential-vectors field arr mult is form)
      (essential-inside field arr mult is form) basis)

  pub extended-degrees : (G : List (Vector K)) → All (λ v. All (IsPoly ring) v) G → HaveDegrees ring G
      → HaveDegrees ring (map (map (substituted ring (essential_variables ring arr.dim pivots e.rows))) G)
  extended-degrees G polys degrees =
      All-map (λ v. (d : ℕ) × (d ≤ most_degree) × IsHomogeneousVector ring d v) (map (substituted ring xs)) G (λ i d l.
      let h = degrees i d l in
      degree-of (Rattle.std.specs.Prelude.slice_index_or G i d) (polys i d l) h.0 h.1 h.2)
    where
      degree-of : (v : Vector K) → All (IsPoly ring) v → (d : ℕ) → d ≤ most_degree → IsHomogeneousVector ring d v
          → (d : ℕ) × (d ≤ most_degree) × IsHomogeneousVector ring d (map (substituted ring xs) v)
      degree-of v p d m h = (d, m, essential-degree L (arrangement-essential field arr mult is form) d v p h)

  -- The stops are the same.
  pub extended-never : (limits : Limits) → NeverStops (elimination_order (length arr.forms)) IsEssentialMember limits
      → NeverStops (elimination_order (length arr.forms)) (IsExtended ring arr mult) limits
  extended-never limits h = same-never (elimination_order n) limits same-least h

  pub extended-stop : (limits : Limits) (x : Stop) → IsStop (elimination_order (length arr.forms)) IsEssentialMember limits x
      → IsStop (elimination_order (length arr.forms)) (IsExtended ring arr mult) limits x
  extended-stop limits x h = same-stop (elimination_order n) limits same-least x h

  pub extended-blocks : (vs : List (Vector K)) → All (λ v. All (IsPoly ring) v) vs
      → second_blocks (length arr.forms) (map (map (substituted ring (essential_variables ring arr.dim pivots e.rows))) vs)
      ≡ map (map (substituted ring (essential_variables ring arr.dim pivots e.rows))) (second_blocks (length arr.forms) vs)
  extended-blocks vs h =
      blocks-mapped (essential-map field (arrangement-essential field arr mult is form)) (essential-keeps field (arrangement-essential field arr mult is form)) n vs h
