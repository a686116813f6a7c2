use Rattle.hp_module.proofs.HeldParts.{IsAdding}
use Rattle.hp_module.proofs.steps.add_multiple.Given as goal

abbrev pub invariant-loop-k : goal.invariant-loop-k
invariant-loop-k g l =
    IsAdding g.F.Ring.ring (g.O.TermOrder.order l.order) (g.O.TermOrder.components l.order) l.c l.m l.fn.rest.items l.parts l.k l.rest.items
