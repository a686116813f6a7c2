use Rattle.std.proofs.Common.{length}
use Rattle.hp_script.specs.Reading.{is_int, int_at}
use Rattle.hp_script.proofs.Loop.{Going}
use Rattle.hp_script.proofs.numbers.ints.Given as goal

abbrev pub invariant-more : goal.invariant-more
invariant-more l = Going is_int int_at l.fn.numbers.items l.tokens l.numbers.items l.rest

abbrev pub decreases-more : goal.decreases-more
decreases-more l = length l.rest
