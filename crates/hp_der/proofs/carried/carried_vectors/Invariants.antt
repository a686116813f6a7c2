use Rattle.std.proofs.Common.{◌≡◌, map, take}
use Rattle.hp_der.specs.CarriedBases.{carried}
use Rattle.hp_der.proofs.carried.carried_vectors.Given as goal

abbrev pub invariant-loop-k : goal.invariant-loop-k
invariant-loop-k g l = l.images.items ≡ map (map (carried g.F.Ring.ring l.xs)) (take l.k l.vectors)
