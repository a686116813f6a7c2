use Rattle.std.proofs.Common.{[], length, refl, subst}
use Rattle.hp_module.specs.ElimOrders.{elimination_order}
use Rattle.hp_module.specs.EliminationLaws.{elimination-is_order}
use Rattle.hp_module.specs.FallingTerms.{free_module}
use Rattle.hp_module.specs.FreeModules.{IsFreeModule}
use Rattle.hp_module.specs.Vectors.{IsVector}
use Rattle.hp_module.proofs.GreatestTerms.{greatest-nonzero, greatest-unique}
use Rattle.hp_syzygy.proofs.first.lead_in.Goals as goal

pub returns-in-Some : goal.returns-in-Some
returns-in-Some g c =
    let v = c.args.v.now in
    let n = length v in
    let split = c.args.order.now.split in
    let laws : IsFreeModule (free_module g.F.Ring.ring g.F.Field.inverse n [] (elimination_order split)) =
    record { field = g.met.F.Field.field_laws; order = elimination-is_order split n } in
    let hv = subst (λ k. IsVector g.F.Ring.ring k v) c.width-width.ensures.value c.width-width.ensures.of in
    λ t x gt. (greatest-unique laws v t c.in-Some.lead x c.in-Some.field-0-1 hv gt c.in-Some.ensures.some).0

pub returns-in-None : goal.returns-in-None
returns-in-None g c =
    let v = c.args.v.now in
    let n = length v in
    let split = c.args.order.now.split in
    let laws : IsFreeModule (free_module g.F.Ring.ring g.F.Field.inverse n [] (elimination_order split)) =
    record { field = g.met.F.Field.field_laws; order = elimination-is_order split n } in
    let hv = subst (λ k. IsVector g.F.Ring.ring k v) c.width-width.ensures.value c.width-width.ensures.of in
    λ t x gt. absurd (greatest-nonzero laws v t x hv gt (c.in-None.ensures.none.0 refl))
