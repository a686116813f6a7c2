use Rattle.std.proofs.Common.{◌≡◌, drop}
use Rattle.std.specs.declared.cmp.Ordering.TheVariants.{Equal}
use Rattle.hp_syzygy.specs.ChainOrders.{by_last}
use Rattle.hp_syzygy.proofs.order.compare_by_last.Given as goal

-- the numbers from here on are equal
abbrev pub invariant-loop-i : goal.invariant-loop-i
invariant-loop-i l = by_last (drop l.i l.a) (drop l.i l.b) ≡ Equal
