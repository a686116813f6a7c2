use Rattle.std.proofs.Common.{◌≡◌, take}
use Rattle.hp_module.specs.ElimOrders.{elimination_order}
use Rattle.hp_module.specs.FallingTerms.{AreDivisors, with_leads}
use Rattle.hp_der.proofs.prepared.divisors_of.Given as goal

abbrev pub invariant-loop-k : goal.invariant-loop-k
invariant-loop-k g l = record {
  lawful : AreDivisors g.F.Ring.ring (elimination_order l.order.split) l.order.width l.divisors;
  members : (with_leads g.F.Ring.ring l.divisors).members ≡ take l.k l.members;
}
