use Rattle.std.proofs.Common.{◌≡◌, take}
use Rattle.hp_syzygy.proofs.first.copies.Given as goal

-- the vectors so far
abbrev pub invariant-loop-k : goal.invariant-loop-k
invariant-loop-k g l = l.copies.items ≡ take l.k l.vectors
