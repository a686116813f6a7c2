use Rattle.std.proofs.Common.{◌≡◌, length}
use Rattle.hp_session.specs.Refused.{expression_refusal}
use Rattle.hp_session.proofs.expressions.check_products.Given as goal

abbrev pub invariant-loop-product : goal.invariant-loop-product
invariant-loop-product g l = expression_refusal l.arr l.products ≡ expression_refusal l.arr l.rest

abbrev pub decreases-loop-product : goal.decreases-loop-product
decreases-loop-product g l = length l.rest
