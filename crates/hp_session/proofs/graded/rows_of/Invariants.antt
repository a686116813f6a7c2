use Rattle.std.proofs.Common.{◌≡◌, take}
use Rattle.hp_session.proofs.graded.rows_of.Given as goal

abbrev pub invariant-loop-k : goal.invariant-loop-k
invariant-loop-k g l = l.rows.items ≡ take l.k l.m.rows
