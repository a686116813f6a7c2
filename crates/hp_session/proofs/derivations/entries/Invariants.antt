use Rattle.std.proofs.Common.{◌≡◌, take}
use Rattle.hp_session.proofs.derivations.entries.Given as goal

abbrev pub invariant-loop-entry : goal.invariant-loop-entry
invariant-loop-entry g l = l.taken.items ≡ take l.entry-index l.row
