use Rattle.std.proofs.Common.{◌≡◌, ◌-◌, [], take, slice_index_or}
use Rattle.hp_session.proofs.graded.row_of.Given as goal

abbrev pub invariant-loop-j : goal.invariant-loop-j
invariant-loop-j g l = l.row.items ≡ take l.j (slice_index_or l.m.rows (l.r - 1) [])
