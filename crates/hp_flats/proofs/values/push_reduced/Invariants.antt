use Rattle.std.proofs.Common.{◌≡◌, ◌++◌, map, take}
use Rattle.hp_flats.specs.Levels.{reduced}
use Rattle.hp_flats.proofs.values.push_reduced.Given as goal

abbrev pub invariant-loop-row : goal.invariant-loop-row
invariant-loop-row g l = l.made.items ≡ l.fn.made.items ++ map (reduced g.K.Ring.ring l.pivot l.i) (take l.row-index l.rows)
