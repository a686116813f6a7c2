use Rattle.std.proofs.Common.{◌≡◌, length}
use Rattle.hp_session.specs.Refused.{generators_refusal}
use Rattle.hp_session.proofs.expressions.check_generators.Given as goal

abbrev pub invariant-loop-i : goal.invariant-loop-i
invariant-loop-i g l = generators_refusal l.arr l.generators ≡ generators_refusal l.arr l.rest

abbrev pub decreases-loop-i : goal.decreases-loop-i
decreases-loop-i g l = length l.rest
