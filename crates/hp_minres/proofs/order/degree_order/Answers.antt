use Rattle.std.proofs.Common.{◌∙◌}
use Rattle.hp_minres.proofs.LoopLists.{kept_order}
use Rattle.hp_minres.proofs.order.degree_order.Goals as goal

pub returns-then-keep-clause-order : goal.returns-then-keep-clause-order
returns-then-keep-clause-order c =
    kept_order c.args.degrees.now c.of.result (c.requires c.if-keep.true) (c.of.ensures ∙ c.in_ok-kept.ensures)
