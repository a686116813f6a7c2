use Rattle.std.proofs.Common.{length}
use Rattle.hp_script.specs.Reading.{is_number, edge_at}
use Rattle.hp_script.proofs.Loop.{Going}
use Rattle.hp_script.proofs.rows.more_edges.Given as goal

abbrev pub invariant-more : goal.invariant-more
invariant-more l = Going is_number edge_at l.fn.edges.items l.tokens l.edges.items l.rest

abbrev pub decreases-more : goal.decreases-more
decreases-more l = length l.rest
