-- The second blocks of the basis of the larger module in essential coordinates, carried, are the basis of the logarithmic
-- derivations.
use Rattle.std.specs.Prelude.{◌≡◌, ℕ, ◌+◌, ◌≤◌, ◌==◌, cond, List, [], map, length, All}
use Rattle.std.proofs.Common.{ne_eqb}
use Rattle.std.proofs.lemmas.Bool.{cases_eq, eq-eqb}
use Rattle.std.proofs.lemmas.List.Elements.{All-nil, All-weaker}
use mathlib.Core.Logic.{inl, inr}
use mathlib.Core.Path.{Path, refl, sym, ap, ◌∙◌, subst}
use native.Mathlib.Omega.{arith}
use Rattle.hp_algebra.specs.Ring.{RingOf, IsField}
use Rattle.hp_algebra.specs.Rows.{IsRow}
use Rattle.hp_lists.specs.Lists.{one_to}
use Rattle.hp_linear.specs.Matrices.{Matrix, IsEchelonForm}
use Rattle.hp_arr.specs.Arrangement.{Arrangement}
use Rattle.hp_poly.specs.Polynomials.{Poly, IsPoly, poly_degree}
use Rattle.hp_poly.specs.Substitutions.{substituted}
use Rattle.hp_module.specs.Vectors.{Vector, GeneratesSet, IsVector, IsGenerated, IsHomogeneousVector}
use Rattle.hp_module.specs.Derivations.{IsVectorInVariables}
use Rattle.hp_module.specs.Leads.{IsReducedBasis}
use Rattle.hp_module.specs.ElimOrders.{elimination_order}
use Rattle.hp_module.specs.ReducedBases.{Basis, IsBasis}
use Rattle.hp_module.proofs.Symbols.{generated-vector}
use Rattle.hp_graded.specs.EssentialRows.{essential_form, essential_variables}
use Rattle.hp_graded.proofs.EssentialMaps.{essential-map, essential-one_to_one, essential-onto}
use Rattle.hp_graded.proofs.FullForms.{full-form}
use Rattle.hp_der.specs.BasisSettings.{HaveDegrees}
use Rattle.hp_der.specs.CarriedBases.{CarriesDerivations, IsCarried, IsCarriedBy, carried, coordinates}
use Rattle.hp_der.specs.DerivationModules.{IsExtended, IsLogarithmic, column_generator, extended_generators, most_multiplicity, power_generator, second_blocks}
use Rattle.hp_der.specs.EssentialGenerators.{essential_generators}
use Rattle.hp_der.proofs.BlockBases.{blocks-basis, blocks-degrees}
use Rattle.hp_der.proofs.CarriedMaps.{carried-substituted, essential-linear, same-carried, same-vectors}
use Rattle.hp_der.proofs.DerivationBases.{derivations-basis, derivations-degrees, derivations-generate, derivations-reduced, derivations-variables}
use Rattle.hp_der.proofs.EssentialBases.{IsEssentialMember, extended-blocks, extended-degrees, extended-reduced}
use Rattle.hp_der.proofs.EssentialGenerators.{arrangement-essential, essential-degrees, essential-vectors, map-fixed}
use Rattle.hp_der.proofs.ExtendedGenerators.{IsMultiArrangement}

module _ {K : Type 0} {ring : RingOf K} {inverse : K → K} (field : IsField ring inverse) (arr : Arrangement K) (mult : List ℕ)
    (is : IsMultiArrangement ring arr mult) {e : Matrix K} {pivots : List ℕ}
    (form : IsEchelonForm ring (record { cols = arr.dim; rows = arr.forms }) e pivots) where
  abbrev n : ℕ
  n = length arr.forms

  abbrev l : ℕ
  l = arr.dim

  abbrev gens : List (Vector K)
  gens = essential_generators ring arr mult pivots

  abbrev vectors : All (IsVector ring (n + l)) gens
  vectors = essential-vectors field arr mult is form

  abbrev graded : All (λ v. (d : ℕ) × IsHomogeneousVector ring d v) gens
  graded = All-weaker (λ v. (d : ℕ) × (d ≤ most_multiplicity) × IsHomogeneousVector ring d v) (λ v. (d : ℕ) × IsHomogeneousVector ring d v)
      (λ v h. (h.0, h.2)) gens (essential-degrees field arr mult is form)

  abbrev variables : List (Poly K)
  variables = essential_variables ring l pivots e.rows

  abbrev f : Poly K → Poly K
  f p = substituted ring variables p

  -- Where each column has a pivot the generators are those of the larger module.
  same-generators : length pivots ≡ l → essential_generators ring arr mult pivots ≡ extended_generators ring arr mult
  same-generators full =
      let forms : map (essential_form ring l pivots) arr.forms ≡ arr.forms =
      map-fixed (essential_form ring l pivots) arr.forms
      (All-weaker (IsRow ring l) (λ a. essential_form ring l pivots a ≡ a) (full-form field.is_ring l arr.forms form full) arr.forms is.rows) in
      λ i. Rattle.std.specs.Prelude.◌++◌ (map (column_generator ring arr mult) (one_to l))
      (map (power_generator ring (record { dim = l; forms = forms i }) mult) (one_to n))

  module _ {G : List (Vector K)} (basis : IsReducedBasis ring (elimination_order n) (IsEssentialMember field arr mult is form) G)
      (degrees : HaveDegrees ring G) where
    abbrev E : List (Vector K)
    E = second_blocks n G

    abbrev b : Basis K
    b = record { split = 0; width = l; members = E }

    pub blocks_of : IsBasis ring (record { split = 0; width = arr.dim; members = second_blocks (length arr.forms) G })
    blocks_of = blocks-basis field n l gens vectors graded basis degrees

    block_degrees : HaveDegrees ring E
    block_degrees = blocks-degrees field n l gens vectors graded basis degrees

    polys : All (λ v. All (IsPoly ring) v) G
    polys = All-weaker (IsEssentialMember field arr mult is form) (λ v. All (IsPoly ring) v)
        (λ v g. (generated-vector field.is_ring field.commutes (n + l) gens vectors v g).1) G basis.members

    -- ---- by the substitution

    whole : IsReducedBasis ring (elimination_order n) (IsExtended ring arr mult) (map (map f) G)
    whole = extended-reduced field arr mult is form basis

    whole_degrees : HaveDegrees ring (map (map f) G)
    whole_degrees = extended-degrees field arr mult is form G polys degrees

    same : second_blocks n (map (map f) G) ≡ map (map f) E
    same = extended-blocks field arr mult is form G polys

    substituted-carries : IsCarried ring f b
    substituted-carries =
        let es = arrangement-essential field arr mult is form in
        record {
          is_map = essential-map field es;
          onto = essential-onto field es;
          apart = essential-one_to_one field es;
          vectors = blocks_of.vectors;
          degrees = block_degrees;
          basis = subst (λ vs. IsBasis ring (record { split = 0; width = l; members = vs })) same (derivations-basis field arr mult is whole whole_degrees);
        }

    substituted-derivations : CarriesDerivations ring arr mult f b
    substituted-derivations = record {
      split = refl;
      width = refl;
      reduced = subst (IsReducedBasis ring (elimination_order 0) (IsLogarithmic ring arr mult)) same (derivations-reduced field arr mult is whole whole_degrees);
      generates = subst (GeneratesSet ring l (IsLogarithmic ring arr mult)) same (derivations-generate field arr mult is whole whole_degrees);
      variables = subst (All (IsVectorInVariables ring l l)) same (derivations-variables field arr mult is whole whole_degrees);
      degrees = subst (HaveDegrees ring) same (derivations-degrees field arr mult is whole whole_degrees);
    }

    -- ---- where nothing is to be put

    same-derivations : length pivots ≡ l → CarriesDerivations ring arr mult (λ p. p) b
    same-derivations full =
        let w = subst (λ gs. IsReducedBasis ring (elimination_order n) (IsGenerated ring (n + l) gs) G) (same-generators full) basis in
        let back = sym (same-vectors ring E) in
        record {
          split = refl;
          width = refl;
          reduced = subst (IsReducedBasis ring (elimination_order 0) (IsLogarithmic ring arr mult)) back (derivations-reduced field arr mult is w degrees);
          generates = subst (GeneratesSet ring l (IsLogarithmic ring arr mult)) back (derivations-generate field arr mult is w degrees);
          variables = subst (All (IsVectorInVariables ring l l)) back (derivations-variables field arr mult is w degrees);
          degrees = subst (HaveDegrees ring) back block_degrees;
        }

    -- ---- by the coordinates

    pub answer_of : (xs : List (Poly K)) → xs ≡ coordinates ring arr.dim pivots e.rows
        → IsCarriedBy ring xs (record { split = 0; width = arr.dim; members = second_blocks (length arr.forms) G })
        × CarriesDerivations ring arr mult (carried ring xs) (record { split = 0; width = arr.dim; members = second_blocks (length arr.forms) G })
    answer_of xs q = elim (cases_eq (length pivots) l) [
      | inl full ↦
          let none : [] ≡ xs = sym (q ∙ ap (λ t. cond t [] variables) (eq-eqb (length pivots) l full)) in
          subst (λ ys. IsCarriedBy ring ys b × CarriesDerivations ring arr mult (carried ring ys) b) none (
            record {
              linear = All-nil (λ (x : Poly K). poly_degree ring x ≤ 1);
              carries = same-carried ring blocks_of block_degrees;
            },
            same-derivations full,
          )
      | inr less ↦
          let some : variables ≡ xs = sym (q ∙ ap (λ t. cond t [] variables) (ne_eqb (length pivots) l less)) in
          let es = arrangement-essential field arr mult is form in
          let by = sym (carried-substituted ring variables es.long) in
          subst (λ ys. IsCarriedBy ring ys b × CarriesDerivations ring arr mult (carried ring ys) b) some (
            record {
              linear = essential-linear field es;
              carries = subst (λ h. IsCarried ring h b) by substituted-carries;
            },
            subst (λ h. CarriesDerivations ring arr mult h b) by substituted-derivations,
          )
    ]

  -- ---- what the program's call of the larger module's basis asks and answers, with the generators by another name

  module _ {asked : List (Vector K)} {forms dim : ℕ} (generators : asked ≡ essential_generators ring arr mult pivots)
      (forms_is : forms ≡ length arr.forms) (dim_is : dim ≡ arr.dim) where
    pub essential-asked_widths : All (λ v. length v ≡ forms + dim) asked
    essential-asked_widths =
        subst (All (λ v. length v ≡ forms + dim)) (sym generators)
        (All-weaker (IsVector ring (n + l)) (λ v. length v ≡ forms + dim)
        (λ v h. let e = h.0 in omega (arith, e, forms_is, dim_is)) gens vectors)

    pub essential-asked_degrees : All (λ v. (d : ℕ) × (d ≤ most_multiplicity) × IsHomogeneousVector ring d v) asked
    essential-asked_degrees =
        subst (All (λ v. (d : ℕ) × (d ≤ most_multiplicity) × IsHomogeneousVector ring d v)) (sym generators) (essential-degrees field arr mult is form)

    -- a fact of the split and of the submodule
    pub of-essential : (P : ℕ → (Vector K → Type 0) → Type 0) → P forms (IsGenerated ring (forms + dim) asked)
        → P (length arr.forms) (IsEssentialMember field arr mult is form)
    of-essential P h =
        subst (λ n. P n (IsGenerated ring (n + arr.dim) (essential_generators ring arr mult pivots))) forms_is
        (subst (λ w. P forms (IsGenerated ring (forms + w) (essential_generators ring arr mult pivots))) dim_is
        (subst (λ gs. P forms (IsGenerated ring (forms + dim) gs)) generators h))

    module _ {found blocks : List (Vector K)} (basis : IsReducedBasis ring (elimination_order forms) (IsGenerated ring (forms + dim) asked) found)
        (degrees : HaveDegrees ring found) (blocks_are : blocks ≡ second_blocks forms found) where
      reduced : IsReducedBasis ring (elimination_order n) (IsEssentialMember field arr mult is form) found
      reduced = of-essential (λ n N. IsReducedBasis ring (elimination_order n) N found) basis

      same_basis : Path (Basis K) (record { split = 0; width = l; members = second_blocks n found }) (record { split = 0; width = dim; members = blocks })
      same_basis = λ i. record { split = 0; width = sym dim_is i; members = sym (blocks_are ∙ ap (λ n. second_blocks n found) forms_is) i }

      pub essential-basis : IsBasis ring (record { split = 0; width = dim; members = blocks })
      essential-basis = subst (IsBasis ring) same_basis (blocks_of reduced degrees)

      pub essential-answer : {xs : List (Poly K)} {b : Basis K} → xs ≡ coordinates ring dim pivots e.rows
          → b ≡ record { split = 0; width = dim; members = blocks }
          → IsCarriedBy ring xs b × CarriesDerivations ring arr mult (carried ring xs) b
      essential-answer {xs} {b} q is =
          subst (λ c. IsCarriedBy ring xs c × CarriesDerivations ring arr mult (carried ring xs) c) (same_basis ∙ sym is)
          (answer_of reduced degrees xs (q ∙ ap (λ w. coordinates ring w pivots e.rows) dim_is))
