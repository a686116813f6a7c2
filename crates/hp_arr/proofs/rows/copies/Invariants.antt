use Rattle.std.proofs.Common.{◌≡◌, take}
use Rattle.hp_arr.proofs.rows.copies.Given as goal

abbrev pub invariant-loop-list : goal.invariant-loop-list
invariant-loop-list g l = l.copies.items ≡ take l.list-index l.lists
