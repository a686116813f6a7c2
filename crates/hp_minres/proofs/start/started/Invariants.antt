use Rattle.std.proofs.Common.{[], get_or}
use Rattle.hp_minres.specs.Reductions.{AreSorted}
use Rattle.hp_minres.proofs.start.started.Given as goal

abbrev pub invariant-loop-k : goal.invariant-loop-k
invariant-loop-k g l = AreSorted l.fn.frame (λ k. get_or l.orders.items k []) l.k l.maps.items l.sorted.items
