use Rattle.std.proofs.Common.{length}
use Rattle.hp_script.specs.Reading.{is_symbol, later_row_at}
use Rattle.hp_script.proofs.Loop.{Going}
use Rattle.hp_script.proofs.rows.later_rows.Given as goal

abbrev pub invariant-more : goal.invariant-more
invariant-more l = Going (is_symbol 44) later_row_at l.fn.rows.items l.tokens l.rows.items l.rest

abbrev pub decreases-more : goal.decreases-more
decreases-more l = length l.rest
