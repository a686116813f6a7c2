use Rattle.hp_module.proofs.ComponentOrders.{falling-plus}
use Rattle.hp_module.proofs.merging.merged.Goals as goal

pub returns-clause-answer : goal.returns-clause-answer
returns-clause-answer g c =
    let b = c.args.order.now in
    falling-plus (g.O.TermOrder.components b) (g.O.TermOrder.order b) (g.met.O.TermOrder.lawful b c.width-width.ensures.of)
    c.args.comp c.requires.counted c.requires.within g.met.F.Field.field_laws c.args.right.now c.requires.left
    c.requires.right.monomials c.in_ok-sum.ensures.answer c.in_ok-sum.ensures.value
