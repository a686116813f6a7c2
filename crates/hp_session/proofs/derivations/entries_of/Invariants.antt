use Rattle.std.proofs.Common.{◌≡◌, take}
use Rattle.hp_session.proofs.derivations.entries_of.Given as goal

abbrev pub invariant-loop-vector : goal.invariant-loop-vector
invariant-loop-vector g l = l.taken.items ≡ take l.vector-index l.vectors
