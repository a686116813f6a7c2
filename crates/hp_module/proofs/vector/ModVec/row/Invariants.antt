use Rattle.std.proofs.Common.{◌≡◌, take}
use Rattle.hp_module.proofs.vector.ModVec.row.Given as goal

abbrev pub invariant-loop-k : goal.invariant-loop-k
invariant-loop-k g l = l.row.items ≡ take l.k l.entries
