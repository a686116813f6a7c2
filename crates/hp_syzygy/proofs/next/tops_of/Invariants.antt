use Rattle.std.proofs.Common.{◌≡◌, map, take}
use Rattle.hp_syzygy.specs.ChainOrders.{full}
use Rattle.hp_syzygy.proofs.next.tops_of.Given as goal

-- the terms so far
abbrev pub invariant-loop-k : goal.invariant-loop-k
invariant-loop-k g l = l.terms.items ≡ map (full l.level.chain) (take l.k l.level.leads)
