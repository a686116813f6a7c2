use Rattle.std.proofs.Common.{◌≡◌, take}
use Rattle.hp_algebra.specs.Rows.{row_scale, row_minus}
use Rattle.hp_arr.proofs.restriction.minus_multiple.Given as goal

abbrev pub invariant-loop-k : goal.invariant-loop-k
invariant-loop-k g l = l.row.items ≡ row_minus g.K.Ring.ring (take l.k l.b) (row_scale g.K.Ring.ring l.c (take l.k l.a))
