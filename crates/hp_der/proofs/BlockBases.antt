-- The second blocks of the reduced basis of a submodule are the reduced basis of what they generate.
use Rattle.std.specs.Prelude.{ℕ, ◌+◌, ◌≤◌, List, All}
use Rattle.std.proofs.lemmas.List.Elements.{All-contains, All-drop, All-weaker}
use Rattle.hp_algebra.specs.Ring.{RingOf, IsField}
use Rattle.hp_module.specs.Vectors.{Vector, IsVector, IsGenerated, IsHomogeneousVector}
use Rattle.hp_module.specs.Leads.{IsReducedBasis}
use Rattle.hp_module.specs.ElimOrders.{elimination_order}
use Rattle.hp_module.specs.ReducedBases.{IsBasis}
use Rattle.hp_groebner.specs.LimitRules.{most_degree}
use Rattle.hp_graded.proofs.ReducedSubsets.{reduced-same}
use Rattle.hp_der.specs.BasisSettings.{HaveDegrees}
use Rattle.hp_der.specs.DerivationModules.{second_blocks}
use Rattle.hp_der.proofs.Eliminations.{each-second, generated-second, second-basis, second-generated, second-vectors, second_lawful}

module _ {F : Type 0} {ring : RingOf F} {inverse : F → F} (field : IsField ring inverse) (n l : ℕ) (gens : List (Vector F))
    (vectors : All (IsVector ring (n + l)) gens) (graded : All (λ v. (d : ℕ) × IsHomogeneousVector ring d v) gens)
    {G : List (Vector F)} (basis : IsReducedBasis ring (elimination_order n) (IsGenerated ring (n + l) gens) G)
    (degrees : HaveDegrees ring G) where
  abbrev homogeneous : All (λ v. (d : ℕ) × IsHomogeneousVector ring d v) G
  homogeneous = All-weaker (λ v. (d : ℕ) × (d ≤ most_degree) × IsHomogeneousVector ring d v) (λ v. (d : ℕ) × IsHomogeneousVector ring d v)
      (λ v h. (h.0, h.2)) G degrees

  pub blocks-degrees : HaveDegrees ring (second_blocks n G)
  blocks-degrees = each-second field n l gens vectors graded basis homogeneous (λ v. (d : ℕ) × (d ≤ most_degree) × IsHomogeneousVector ring d v) (λ g at z.
      let h = All-contains (λ v. (d : ℕ) × (d ≤ most_degree) × IsHomogeneousVector ring d v) G g degrees at in
      (h.0, h.1, All-drop (Rattle.hp_poly.specs.Polynomials.IsHomogeneous ring h.0) n g h.2))

  pub blocks-basis : IsBasis ring (record { split = 0; width = l; members = second_blocks n G })
  blocks-basis = record {
    vectors = second-vectors field n l gens vectors graded basis homogeneous;
    homogeneous = All-weaker (λ v. (d : ℕ) × (d ≤ most_degree) × IsHomogeneousVector ring d v) (λ v. (d : ℕ) × IsHomogeneousVector ring d v)
        (λ v h. (h.0, h.2)) (second_blocks n G) blocks-degrees;
    reduced = reduced-same (second_lawful field n l) (second-basis field n l gens vectors graded basis homogeneous) (λ v.
        (second-generated field n l gens vectors graded basis homogeneous v, generated-second field n l gens vectors graded basis homogeneous v));
  }
