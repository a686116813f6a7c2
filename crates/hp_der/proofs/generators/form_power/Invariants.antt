use Rattle.std.proofs.Common.{◌≡◌}
use Rattle.hp_poly.specs.Polynomials.{form_power}
use Rattle.hp_der.proofs.generators.form_power.Given as goal

abbrev pub invariant-loop : goal.invariant-loop
invariant-loop g l = l.power ≡ form_power g.F.Ring.ring l.form l.counter
