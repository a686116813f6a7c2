use Rattle.std.proofs.Common.{◌≡◌, true, take}
use Rattle.hp_lists.specs.Lists.{list_all}
use Rattle.hp_algebra.specs.Rows.{entry}
use Rattle.hp_arr.proofs.affine.are_zero_at.Given as goal

abbrev pub invariant-loop-row : goal.invariant-loop-row
invariant-loop-row g l = list_all (λ row. g.K.Ring.ring.is_zero (entry g.K.Ring.ring row l.place)) (take l.row-index l.rows) ≡ true
