use Rattle.std.proofs.Common.{◌≡◌, take}
use Rattle.hp_module.specs.FallingTerms.{AreDivisors, with_leads}
use Rattle.hp_module.proofs.division.divide.Given as goal

abbrev pub invariant-loop-k : goal.invariant-loop-k
invariant-loop-k g l = record {
  divisors : AreDivisors g.F.Ring.ring (g.O.TermOrder.order l.order) (g.O.TermOrder.components l.order) l.divisors;
  members : (with_leads g.F.Ring.ring l.divisors).members ≡ take l.k l.basis;
}
