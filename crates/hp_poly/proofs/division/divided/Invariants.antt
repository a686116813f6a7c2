use Rattle.hp_poly.proofs.ExactDivision.{IsDividing}
use Rattle.hp_poly.proofs.FactorSteps.{peak}
use Rattle.hp_poly.proofs.division.divided.Given as goal

abbrev pub invariant-loop-first : goal.invariant-loop-first
invariant-loop-first g l = IsDividing g.F.Ring.ring l.by l.p l.terms.items l.rest

abbrev pub decreases-loop-first : goal.decreases-loop-first
decreases-loop-first g l = peak l.rest
