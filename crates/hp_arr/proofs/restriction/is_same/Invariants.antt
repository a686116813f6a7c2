use Rattle.std.proofs.Common.{◌≡◌, drop}
use Rattle.hp_algebra.specs.Rows.{same_row}
use Rattle.hp_arr.proofs.restriction.is_same.Given as goal

abbrev pub invariant-loop-k : goal.invariant-loop-k
invariant-loop-k g l = same_row g.K.Ring.ring l.a l.b ≡ same_row g.K.Ring.ring (drop l.k l.a) (drop l.k l.b)
