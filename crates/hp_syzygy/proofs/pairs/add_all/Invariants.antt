use Rattle.std.proofs.Common.{◌≡◌, ◌++◌, take}
use Rattle.hp_syzygy.proofs.pairs.add_all.Given as goal

-- the pairs so far
abbrev pub invariant-loop-k : goal.invariant-loop-k
invariant-loop-k l = l.pairs.items ≡ l.initial.pairs.items ++ take l.k l.others
