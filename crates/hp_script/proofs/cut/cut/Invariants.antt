use Rattle.std.proofs.Common.{length}
use Rattle.hp_script.proofs.Cutting.{Cutting}
use Rattle.hp_script.proofs.cut.cut.Given as goal

abbrev pub invariant-byte : goal.invariant-byte
invariant-byte l = Cutting l.line l.tokens.items l.places.items l.column l.rest

abbrev pub decreases-byte : goal.decreases-byte
decreases-byte l = length l.rest
