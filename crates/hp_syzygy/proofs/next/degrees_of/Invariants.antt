use Rattle.std.proofs.Common.{◌≡◌, map, take}
use Rattle.hp_mono.specs.Monomials.{degree}
use Rattle.hp_syzygy.specs.ChainOrders.{full}
use Rattle.hp_syzygy.proofs.next.degrees_of.Given as goal

-- the degrees so far
abbrev pub invariant-loop-k : goal.invariant-loop-k
invariant-loop-k g l = l.degrees.items ≡ map (λ t. degree (full l.level.chain t).mono) (take l.k l.level.leads)
