-- Generators of D(A, m): they are at least as many as the dimension; so many are a basis, and their values at a point
-- off the hyperplanes are an invertible matrix; minimal ones are so many exactly where the arrangement is free.
use Rattle.std.specs.Prelude.{◌≡◌, ◌≢◌, ◌==◌, ℕ, ◌+◌, ◌<◌, ◌≤◌, cond, Bool, true, false, List, [], map, length, replicate, All, slice_index_or}
use Rattle.std.proofs.lemmas.List.{length-map}
use Rattle.std.proofs.lemmas.List.FromFn.{length-map-range_with_len}
use Rattle.std.proofs.lemmas.List.Elements.{All-map, All-weaker}
use mathlib.Core.Path.{sym, ap, ◌∙◌, subst}
use native.Mathlib.Omega.{arith}
use Rattle.hp_lists.specs.Lists.{one_to}
use Rattle.hp_algebra.specs.Ring.{RingOf, Numbering, IsRing, IsCommutative, IsDomain, IsField, IsNumbering}
use Rattle.hp_algebra.specs.Rows.{row_scale, unit_row}
use Rattle.hp_algebra.proofs.Rings.{field-domain}
use Rattle.hp_algebra.proofs.Rows.{scale-one, scale-scale}
use Rattle.hp_algebra.proofs.UnitRows.{unit-row}
use Rattle.hp_arr.specs.Arrangement.{Arrangement, IsArrangement, IsLeastPointOff}
use Rattle.hp_arr.proofs.LeastPoint.{IsOff-from_LiesOff}
use Rattle.hp_arr.proofs.LeastPointExists.{least_exists}
use Rattle.hp_linear.specs.Spaces.{IsCombination}
use Rattle.hp_linear.specs.Matrices.{Matrix, IsInverse}
use Rattle.hp_linear.proofs.Combinations.{span-scale}
use Rattle.hp_poly.specs.Polynomials.{Poly, IsPoly, IsInVariables, poly_ring, poly_value}
use Rattle.hp_poly.specs.PolyRing.{poly_commutes, poly_is_ring}
use Rattle.hp_poly.specs.PolyDomain.{poly_is_domain}
use Rattle.hp_module.specs.Vectors.{Vector, GeneratesSet, IsGenerated, IsIndependent, IsVector}
use Rattle.hp_module.specs.Derivations.{IsVectorInVariables}
use Rattle.hp_module.specs.FreeModules.{FreeModule, IsFreeModule, IsGraded}
use Rattle.hp_module.specs.ElimOrders.{elimination_order}
use Rattle.hp_module.specs.EliminationLaws.{elimination-is_order}
use Rattle.hp_module.specs.FallingTerms.{free_module}
use Rattle.hp_graded.specs.MinimalGenerators.{IsIrredundant}
use Rattle.hp_der.specs.DerivationModules.{IsLogarithmic}
use Rattle.hp_der.proofs.FirstForms.{first-constant}
use Rattle.hp_saito.specs.Freeness.{IsFreeArrangement, row_values, values_matrix}
use Rattle.hp_saito.proofs.SpannedMultiples.{SpansMultiples, independent-few, spanning-enough, spanning-independent}
use Rattle.hp_saito.proofs.UnitSpans.{spanning-inverse}
use Rattle.hp_saito.proofs.RingImages.{image-row, image-rows, image-scale, image-times, image-unit, value-homomorphism}
use Rattle.hp_saito.proofs.DefiningMultiples.{multiple-derivation, power_product, product-in, product-off}
use Rattle.hp_saito.proofs.ConstantRelations.{irredundant-few}

-- An arrangement over a field whose elements are numbered, and generators of D(A, m).
pub record HasGenerators {K : Type 0} (ring : RingOf K) (inverse : K → K) (numbers : Numbering K)
    (arr : Arrangement K)
    (mult : List ℕ) (vs : List (Vector K)) : Type 0 where
  pub field : IsField ring inverse
  pub numbering : IsNumbering ring numbers
  pub lawful : IsArrangement ring numbers arr
  pub generates : GeneratesSet ring arr.dim (IsLogarithmic ring arr mult) vs

module _ {K : Type 0} {ring : RingOf K} {inverse : K
    → K} {numbers : Numbering K} {arr : Arrangement K} {mult : List ℕ}
    {vs : List (Vector K)} (has : HasGenerators ring inverse numbers arr mult vs) where
  abbrev laws : IsRing ring
  laws = has.field.is_ring

  abbrev comm : IsCommutative ring
  comm = has.field.commutes

  abbrev P : RingOf (Poly K)
  P = poly_ring ring

  abbrev PL : IsRing (poly_ring ring)
  PL = poly_is_ring laws comm

  abbrev PC : IsCommutative (poly_ring ring)
  PC = poly_commutes laws comm

  abbrev PD : IsDomain (poly_ring ring)
  PD = poly_is_domain laws comm (field-domain has.field)

  abbrev w : ℕ
  w = arr.dim

  abbrev Log : Vector K → Type 0
  Log v = IsLogarithmic ring arr mult v

  abbrev q : Poly K
  q = power_product ring arr.forms mult

  -- the product of the powers of the forms is not zero at a point off the hyperplanes
  q-off : (x : List K) → IsLeastPointOff ring numbers arr x → poly_value ring x q ≢ ring.zero
  q-off x least =
      product-off has.field w x has.lawful.dim_high least.point arr.forms mult has.lawful.rows
      (IsOff-from_LiesOff laws arr has.lawful x least.point least.off)

  log-vectors : (us : List (Vector K)) → All Log us → All (IsVector ring arr.dim) us
  log-vectors us h =
      All-weaker Log (IsVector ring w)
      (λ v d. (
        d.in_variables.0,
        All-weaker (IsInVariables ring w) (IsPoly ring)
            (λ p f. f.0) v d.in_variables.1,
      )) us h

  unit-in : (k : ℕ) → IsVectorInVariables ring w w (unit_row P w k)
  unit-in k = (
    length-map-range_with_len (λ j. cond (j == k) P.one P.zero) 1 w,
    All-map (IsInVariables ring w)
        (λ j. cond (j == k) P.one P.zero) (one_to w) (λ i d l. value (slice_index_or (one_to w) i d == k)),
  )
    where
      value : (b : Bool) → IsInVariables ring w (cond b P.one P.zero)
      value true = (PL.one_value, first-constant laws comm w ring.one)
      value false = (PL.zero_value, λ i d l. absurd (omega arith))

  spans-of : (us : List (Vector K)) → GeneratesSet ring w Log us → SpansMultiples (poly_ring ring) w q us
  spans-of us gen =
      let least = least_exists laws (field-domain has.field) has.numbering arr has.lawful in record {
        rows = log-vectors us gen.members;
        factor = (product-in laws comm w arr.forms mult has.lawful.rows).0;
        nonzero = λ e. q-off least.0 least.1 (ap (poly_value ring least.0) e);
        units = λ k l. gen.every _ (multiple-derivation laws comm w arr.forms mult has.lawful.rows _
            (unit-in (k + 1)));
      }

  -- They are at least as many as the dimension.
  pub generators-enough : arr.dim ≤ length vs
  generators-enough = spanning-enough PL PC PD w q vs (spans-of vs has.generates)

  -- So many as the dimension are independent.
  pub generators-independent : length vs ≡ arr.dim → IsIndependent ring arr.dim vs
  generators-independent = spanning-independent PL PC PD w q vs (spans-of vs has.generates)

  -- ---- minimal ones

  abbrev pub shifted_none : FreeModule K
  shifted_none = free_module ring inverse arr.dim (replicate arr.dim 0) (elimination_order 0)

  module _ (D : ℕ → ℕ) (homogeneous : (i : ℕ) → i < length vs
      → IsGraded (replicate arr.dim 0) (D i) (slice_index_or vs i []))
      (rises : (i j : ℕ) → i ≤ j → j < length vs → D i ≤ D j) (least : IsIrredundant ring arr.dim vs) where
    -- Where the arrangement is free, homogeneous generators of which none is redundant are at most as many.
    pub generators-few : IsFreeArrangement ring arr mult → length vs ≤ arr.dim
    generators-few free =
        let bs = free.0 in
        let basis = free.1 in
        let L : IsFreeModule (free_module ring inverse arr.dim (replicate arr.dim 0) (elimination_order 0)) =
        record { field = has.field; order = elimination-is_order 0 w } in
        let vb = log-vectors bs basis.generates.members in
        let vk = log-vectors vs has.generates.members in
        let few = independent-few PL PC PD w bs vb basis.independent in
        let not_more = irredundant-few L bs vs vb vk
        (All-weaker Log (IsGenerated ring w bs) basis.generates.every vs has.generates.members)
        (All-weaker Log (IsGenerated ring w vs) has.generates.every bs basis.generates.members) D homogeneous rises
        least in
        omega (arith, few, not_more)

  -- ---- values at a point

  module _ (x : List K) (off : IsLeastPointOff ring numbers arr x) where
    -- the values span the unit rows
    values-span : (k : ℕ) → k < w → IsCombination ring w (map (row_values ring x) vs) (unit_row ring w (k + 1))
    values-span k l =
        let hom = value-homomorphism laws comm x off.point.1 in
        let S = spans-of vs has.generates in
        let s = S.units k l in
        let y = poly_value ring x q in
        let vy = hom.value q S.factor in
        let ny = q-off x off in
        let vi = has.field.inverse_value y vy ny in
        let u = unit_row ring w (k + 1) in
        let ru = unit-row laws w (k + 1) in
        let rows = image-rows PL hom w vs S.rows in
        let scaled : IsCombination ring w (map (row_values ring x) vs) (row_scale ring y u) = (
          map (poly_value ring x) s.0,
          (
            (image-row PL hom (length vs) s.0 s.1).0
                ∙ sym (length-map vs (row_values ring x)),
            (image-row PL hom (length vs) s.0 s.1).1,
          ),
          sym (image-scale PL hom q (unit_row P w (k + 1)) S.factor (unit-row PL w (k + 1)).1
              ∙ ap (row_scale ring y) (image-unit PL hom w (k + 1)))
              ∙ ap (map (poly_value ring x)) s.2 ∙ image-times PL hom w s.0 vs s.1.1 S.rows,
        ) in
        subst (IsCombination ring w (map (row_values ring x) vs))
        (scale-scale laws w (inverse y) y u vi vy ru
        ∙ ap (λ c. row_scale ring c u) (comm (inverse y) y vi vy ∙ has.field.mul_inverse y vy ny)
        ∙ scale-one laws w u ru)
        (span-scale laws w (map (row_values ring x) vs) rows (inverse y) (row_scale ring y u) vi scaled)

    -- So many as the dimension have invertible values.
    pub values-inverse : length vs ≡ arr.dim → (n : Matrix K) × IsInverse ring (values_matrix ring arr.dim x vs) n
    values-inverse e =
        let hom = value-homomorphism laws comm x off.point.1 in
        spanning-inverse has.field (values_matrix ring arr.dim x vs)
        (image-rows PL hom w vs (spans-of vs has.generates).rows)
        (length-map vs (row_values ring x) ∙ e) values-span
