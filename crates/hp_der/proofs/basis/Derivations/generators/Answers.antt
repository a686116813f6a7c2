use Rattle.std.proofs.Common.{◌∙◌, map, sym, subst}
use Rattle.hp_module.specs.Vectors.{IsKept}
use Rattle.hp_graded.specs.MinimalGenerators.{GenerateSame, IsIrredundant}
use Rattle.hp_der.specs.CarriedBases.{carried}
use Rattle.hp_der.proofs.CarriedGenerators.{carried-irredundant, carried-kept, carried-same}
use Rattle.hp_der.proofs.basis.Derivations.generators.Goals as goal

pub returns-clause-kept : goal.returns-clause-kept
returns-clause-kept g c =
    let ring = g.K.Ring.ring in
    let members = c.in_ok-generators.ensures ∙ (λ i. map (map (carried ring (c.as_slice-2.ensures.value i))) (c.as_slice.ensures.value i)) in
    subst (λ b. IsKept ring b.width b.members c.in_ok-generators.generators.items) c.self.view_is
    (subst (IsKept ring c.self.inside.essential.width (map (map (carried ring c.self.inside.variables.items)) c.self.inside.essential.members)) (sym members)
    (carried-kept g.met.K.Field.field_laws c.self.invariant.carries c.in_ok-kept.kept.items c.in_ok-kept.ensures.kept))

pub returns-clause-same : goal.returns-clause-same
returns-clause-same g c =
    let ring = g.K.Ring.ring in
    let members = c.in_ok-generators.ensures ∙ (λ i. map (map (carried ring (c.as_slice-2.ensures.value i))) (c.as_slice.ensures.value i)) in
    subst (λ b. GenerateSame ring b.width b.members c.in_ok-generators.generators.items) c.self.view_is
    (subst (GenerateSame ring c.self.inside.essential.width (map (map (carried ring c.self.inside.variables.items)) c.self.inside.essential.members)) (sym members)
    (carried-same g.met.K.Field.field_laws c.self.invariant.carries c.in_ok-kept.kept.items c.in_ok-kept.ensures.kept c.in_ok-kept.ensures.same))

pub returns-clause-irredundant : goal.returns-clause-irredundant
returns-clause-irredundant g c =
    let ring = g.K.Ring.ring in
    let members = c.in_ok-generators.ensures ∙ (λ i. map (map (carried ring (c.as_slice-2.ensures.value i))) (c.as_slice.ensures.value i)) in
    subst (λ b. IsIrredundant ring b.width c.in_ok-generators.generators.items) c.self.view_is
    (subst (IsIrredundant ring c.self.inside.essential.width) (sym members)
    (carried-irredundant g.met.K.Field.field_laws c.self.invariant.carries c.in_ok-kept.kept.items c.in_ok-kept.ensures.kept c.in_ok-kept.ensures.irredundant))
