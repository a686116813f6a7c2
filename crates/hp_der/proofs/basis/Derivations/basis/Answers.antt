use Rattle.std.proofs.Common.{◌∙◌, ℕ, List, map, sym, subst}
use Rattle.hp_module.specs.ReducedBases.{Basis, IsBasis}
use Rattle.hp_module.specs.Vectors.{Vector}
use Rattle.hp_der.specs.CarriedBases.{carried}
use Rattle.hp_der.proofs.basis.Derivations.basis.Goals as goal

pub new-requires : goal.new-requires
new-requires g c =
    let ring = g.K.Ring.ring in
    let make : ℕ → ℕ → List (Vector g.row.K.Denot) → Basis g.row.K.Denot = λ s w vs. record { split = s; width = w; members = vs } in
    let members = c.in_ok-members.ensures ∙ (λ i. map (map (carried ring (c.as_slice.ensures.value i))) (c.members.ensures.value i)) in
    subst (IsBasis ring) (λ i. make (sym c.split.ensures.value i) (sym c.width.ensures.value i) (sym members i)) c.self.invariant.carries.basis

pub returns : goal.returns
returns g c =
    let ring = g.K.Ring.ring in
    let make : ℕ → ℕ → List (Vector g.row.K.Denot) → Basis g.row.K.Denot = λ s w vs. record { split = s; width = w; members = vs } in
    let members = c.in_ok-members.ensures ∙ (λ i. map (map (carried ring (c.as_slice.ensures.value i))) (c.members.ensures.value i)) in
    c.new.ensures ∙ (λ i. make (c.split.ensures.value i) (c.width.ensures.value i) (members i)) ∙ c.self.view_is
