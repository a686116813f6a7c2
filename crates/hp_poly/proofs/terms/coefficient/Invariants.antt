use Rattle.std.proofs.Common.{◌≡◌, length}
use Rattle.hp_poly.specs.Polynomials.{IsPoly, coefficient_of}
use Rattle.hp_poly.proofs.terms.coefficient.Given as goal

abbrev pub invariant-loop-t : goal.invariant-loop-t
invariant-loop-t g l = record {
  rest : IsPoly g.F.Ring.ring l.rest;
  same : coefficient_of g.F.Ring.ring l.rest l.m ≡ coefficient_of g.F.Ring.ring l.terms l.m;
}

abbrev pub decreases-loop-t : goal.decreases-loop-t
decreases-loop-t g l = length l.rest
