use Rattle.std.proofs.Common.{length}
use Rattle.hp_script.specs.Reading.{is_sign, later_at}
use Rattle.hp_script.proofs.Loop.{Going}
use Rattle.hp_script.proofs.expressions.later_products.Given as goal

abbrev pub invariant-more : goal.invariant-more
invariant-more l = Going is_sign later_at l.fn.products.items l.tokens l.products.items l.rest

abbrev pub decreases-more : goal.decreases-more
decreases-more l = length l.rest
