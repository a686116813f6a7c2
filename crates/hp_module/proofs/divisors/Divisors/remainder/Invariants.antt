use Rattle.hp_module.specs.FreeModules.{terms}
use Rattle.hp_module.specs.Divisions.{peak}
use Rattle.hp_module.specs.FallingTerms.{free_module, vector_of, with_leads}
use Rattle.hp_module.proofs.HeldRemainders.{IsLeft}
use Rattle.hp_module.proofs.divisors.Divisors.remainder.Given as goal

abbrev pub invariant-steps : goal.invariant-steps
invariant-steps g l =
    let M = free_module g.F.Ring.ring g.F.Field.inverse (g.O.TermOrder.components l.order) l.grading.shifts (g.O.TermOrder.order l.order) in
    IsLeft M (with_leads g.F.Ring.ring l.self) l.v l.rest.items l.out.items

abbrev pub decreases-steps : goal.decreases-steps
decreases-steps g l =
    let M = free_module g.F.Ring.ring g.F.Field.inverse (g.O.TermOrder.components l.order) l.grading.shifts (g.O.TermOrder.order l.order) in
    peak M (terms (vector_of g.F.Ring.ring l.rest.items))
