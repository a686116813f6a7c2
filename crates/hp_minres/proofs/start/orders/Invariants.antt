use Rattle.hp_minres.proofs.LoopLists.{IsOrdering}
use Rattle.hp_minres.proofs.start.orders.Given as goal

abbrev pub invariant-loop-k : goal.invariant-loop-k
invariant-loop-k g l = IsOrdering l.fn.frame l.k l.orders.items
