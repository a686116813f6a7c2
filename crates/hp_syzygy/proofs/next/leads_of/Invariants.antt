use Rattle.std.proofs.Common.{◌≡◌, map, take}
use Rattle.hp_syzygy.proofs.next.leads_of.Given as goal

-- the leads so far
abbrev pub invariant-loop-k : goal.invariant-loop-k
invariant-loop-k l = l.leads.items ≡ map (λ q. q.0) (take l.k l.pairs)
