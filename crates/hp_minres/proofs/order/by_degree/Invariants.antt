use Rattle.std.proofs.Common.{◌≡◌, map, take, get_or}
use Rattle.hp_lists.specs.Lists.{below}
use Rattle.hp_minres.proofs.order.by_degree.Given as goal

abbrev pub invariant-loop-k : goal.invariant-loop-k
invariant-loop-k l = l.keys.items ≡ map (λ i. (get_or l.fn.degrees i 0, i)) (below l.k)

abbrev pub invariant-loop-k-2 : goal.invariant-loop-k-2
invariant-loop-k-2 l = l.order.items ≡ map (λ key. key.1) (take l.k l.keys.items)
