use Rattle.std.proofs.Common.{◌≡◌, take}
use Rattle.hp_saito.proofs.freeness.vectors.Given as goal

abbrev pub invariant-loop-k : goal.invariant-loop-k
invariant-loop-k g l = l.vectors.items ≡ take l.k l.rows.rows
