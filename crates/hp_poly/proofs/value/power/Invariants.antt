use Rattle.std.proofs.Common.{◌≡◌}
use Rattle.hp_algebra.specs.Ring.{power}
use Rattle.hp_poly.proofs.value.power.Given as goal

abbrev pub invariant-loop : goal.invariant-loop
invariant-loop g l = l.value ≡ power g.F.Ring.ring l.x l.counter
