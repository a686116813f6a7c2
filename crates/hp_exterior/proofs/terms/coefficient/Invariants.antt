use Rattle.std.proofs.Common.{◌≡◌, length}
use Rattle.hp_exterior.specs.Exterior.{IsExt, ext_coefficient}
use Rattle.hp_exterior.proofs.terms.coefficient.Given as goal

abbrev pub invariant-loop-t : goal.invariant-loop-t
invariant-loop-t g l = record {
  rest : IsExt g.F.Ring.ring l.rest;
  same : ext_coefficient g.F.Ring.ring l.rest l.s ≡ ext_coefficient g.F.Ring.ring l.terms l.s;
}

abbrev pub decreases-loop-t : goal.decreases-loop-t
decreases-loop-t g l = length l.rest
