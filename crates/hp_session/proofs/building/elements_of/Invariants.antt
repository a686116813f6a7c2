use Rattle.std.proofs.Common.{◌≡◌, map, take}
use Rattle.hp_algebra.specs.Ring.{integer}
use Rattle.hp_session.proofs.building.elements_of.Given as goal

abbrev pub invariant-loop-v : goal.invariant-loop-v
invariant-loop-v g l = l.elements.items ≡ map (integer g.K.Ring.ring) (take l.v-index l.integers)
