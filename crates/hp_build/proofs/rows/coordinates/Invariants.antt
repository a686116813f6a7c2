use Rattle.std.proofs.Common.{◌≡◌, ◌-◌, map}
use Rattle.hp_lists.specs.Lists.{range_with_len}
use Rattle.hp_algebra.specs.Rows.{unit_row}
use Rattle.hp_build.proofs.rows.coordinates.Given as goal

abbrev pub invariant-loop-i : goal.invariant-loop-i
invariant-loop-i g l = l.forms.items ≡ map (unit_row g.K.Ring.ring l.l) (range_with_len 1 (l.i - 1))
