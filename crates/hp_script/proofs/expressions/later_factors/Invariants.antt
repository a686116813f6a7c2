use Rattle.std.proofs.Common.{length}
use Rattle.hp_script.specs.Reading.{is_symbol, later_factor_at}
use Rattle.hp_script.proofs.Loop.{Going}
use Rattle.hp_script.proofs.expressions.later_factors.Given as goal

abbrev pub invariant-more : goal.invariant-more
invariant-more l = Going (is_symbol 42) later_factor_at l.fn.factors.items l.tokens l.factors.items l.rest

abbrev pub decreases-more : goal.decreases-more
decreases-more l = length l.rest
