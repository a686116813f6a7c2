use Rattle.std.proofs.Common.{◌≡◌, take}
use Rattle.hp_resolution.proofs.matrix.matrix_of.Given as goal

-- the rows so far
abbrev pub invariant-loop-k : goal.invariant-loop-k
invariant-loop-k g l = l.rows.items ≡ take l.k l.vectors
