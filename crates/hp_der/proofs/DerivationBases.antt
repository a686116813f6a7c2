-- The second blocks of the basis of the larger module are the reduced basis of the module of logarithmic derivations,
-- generate it, and are the reduced basis of what they generate over all variables.
use Rattle.std.specs.Prelude.{ℕ, ◌+◌, ◌≤◌, List, drop, length, All}
use Rattle.std.proofs.lemmas.List.Elements.{All-drop, All-from_get_or, All-weaker}
use Rattle.hp_algebra.specs.Ring.{RingOf, IsField, IsRing, IsCommutative}
use Rattle.hp_arr.specs.Arrangement.{Arrangement}
use Rattle.hp_poly.specs.Polynomials.{IsPoly, IsInVariables}
use Rattle.hp_module.specs.Vectors.{Vector, GeneratesSet, IsVector, IsHomogeneousVector}
use Rattle.hp_module.specs.Derivations.{IsVectorInVariables}
use Rattle.hp_module.specs.Leads.{IsReducedBasis}
use Rattle.hp_module.specs.ElimOrders.{elimination_order}
use Rattle.hp_module.specs.ReducedBases.{IsBasis}
use Rattle.hp_module.proofs.EntryTerms.{terms_each}
use Rattle.hp_groebner.specs.LimitRules.{most_degree}
use Rattle.hp_graded.proofs.ExponentTails.{IsFirst}
use Rattle.hp_graded.proofs.ReducedSubsets.{reduced-subset}
use Rattle.hp_graded.proofs.ReducedTerms.{basis_first}
use Rattle.hp_der.specs.BasisSettings.{HaveDegrees}
use Rattle.hp_der.specs.DerivationModules.{IsExtended, IsLogarithmic, extended_generators, most_multiplicity, second_blocks}
use Rattle.hp_der.proofs.BlockBases.{blocks-basis, blocks-degrees}
use Rattle.hp_der.proofs.FirstForms.{AllFirst}
use Rattle.hp_der.proofs.ExtendedGenerators.{IsMultiArrangement, generator-degrees, generator-first, generator-vectors}
use Rattle.hp_der.proofs.ExtendedModules.{derivation_from, extended_from}
use Rattle.hp_der.proofs.Eliminations.{IsSecond, each-second, kept-second, larger_lawful, second-basis, second-generated, second_lawful}

module _ {K : Type 0} {ring : RingOf K} {inverse : K → K} (field : IsField ring inverse) (arr : Arrangement K)
    (mult : List ℕ) (is : IsMultiArrangement ring arr mult) {G : List (Vector K)}
    (basis : IsReducedBasis ring (elimination_order (length arr.forms)) (IsExtended ring arr mult) G)
    (degrees : HaveDegrees ring G) where
  abbrev laws : IsRing ring
  laws = field.is_ring

  abbrev comm : IsCommutative ring
  comm = field.commutes

  abbrev n : ℕ
  n = length arr.forms

  abbrev l : ℕ
  l = arr.dim

  abbrev gens : List (Vector K)
  gens = extended_generators ring arr mult

  abbrev vectors : All (IsVector ring (n + l)) gens
  vectors = generator-vectors laws comm arr mult is

  abbrev graded : All (λ v. (d : ℕ) × IsHomogeneousVector ring d v) gens
  graded = All-weaker (λ v. (d : ℕ) × (d ≤ most_multiplicity) × IsHomogeneousVector ring d v) (λ v. (d : ℕ) × IsHomogeneousVector ring d v)
      (λ v h. (h.0, h.2)) gens (generator-degrees laws comm arr mult is)

  abbrev homogeneous : All (λ v. (d : ℕ) × IsHomogeneousVector ring d v) G
  homogeneous = All-weaker (λ v. (d : ℕ) × (d ≤ most_degree) × IsHomogeneousVector ring d v) (λ v. (d : ℕ) × IsHomogeneousVector ring d v)
      (λ v h. (h.0, h.2)) G degrees

  abbrev E : List (Vector K)
  E = second_blocks n G

  abbrev Second : Vector K → Type 0
  Second = IsSecond field n l gens vectors graded basis homogeneous

  -- derivations are second blocks
  logarithmic-second : (v : Vector K) → IsLogarithmic ring arr mult v → Second v
  logarithmic-second v d =
      ((d.in_variables.0, All-weaker (IsInVariables ring l) (IsPoly ring) (λ p h. h.0) v d.in_variables.1), extended_from field arr mult is v d)

  -- the members of the list are in the first variables, and so derivations
  members-logarithmic : All (IsLogarithmic ring arr mult) E
  members-logarithmic = each-second field n l gens vectors graded basis homogeneous (IsLogarithmic ring arr mult) (λ g at z.
      let s = kept-second field n l gens vectors graded basis homogeneous g at z in
      let f = basis_first (larger_lawful field n l) gens vectors l (generator-first laws comm arr mult is) basis g at in
      let entries : All (AllFirst l) g = All-from_get_or (AllFirst l) g _ (λ j m. terms_each (λ t. IsFirst l t.0.mono) 1 g f j m) in
      let rest : All (AllFirst l) (drop n g) = All-drop (AllFirst l) n g entries in
      derivation_from field arr mult is (drop n g) (s.0.0, λ i d m. (s.0.1 i d m, rest i d m)) s.1)

  pub derivations-reduced : IsReducedBasis ring (elimination_order 0) (IsLogarithmic ring arr mult) (second_blocks (length arr.forms) G)
  derivations-reduced =
      reduced-subset (second_lawful field n l) (second-basis field n l gens vectors graded basis homogeneous) (λ v s. s.0)
      logarithmic-second members-logarithmic

  pub derivations-generate : GeneratesSet ring arr.dim (IsLogarithmic ring arr mult) (second_blocks (length arr.forms) G)
  derivations-generate = record {
    members = members-logarithmic;
    every = λ v d. second-generated field n l gens vectors graded basis homogeneous v (logarithmic-second v d);
  }

  pub derivations-variables : All (IsVectorInVariables ring arr.dim arr.dim) (second_blocks (length arr.forms) G)
  derivations-variables = All-weaker (IsLogarithmic ring arr mult) (IsVectorInVariables ring l l) (λ v d. d.in_variables) E members-logarithmic

  pub derivations-degrees : HaveDegrees ring (second_blocks (length arr.forms) G)
  derivations-degrees = blocks-degrees field n l gens vectors graded basis degrees

  pub derivations-basis : IsBasis ring (record { split = 0; width = arr.dim; members = second_blocks (length arr.forms) G })
  derivations-basis = blocks-basis field n l gens vectors graded basis degrees
