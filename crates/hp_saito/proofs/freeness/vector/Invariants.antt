use Rattle.std.proofs.Common.{◌≡◌, take}
use Rattle.hp_saito.proofs.freeness.vector.Given as goal

abbrev pub invariant-loop-k : goal.invariant-loop-k
invariant-loop-k g l = l.entries.items ≡ take l.k l.row
