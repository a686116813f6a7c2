use Rattle.std.proofs.Common.{◌≡◌, ◌+◌, map}
use Rattle.hp_lists.specs.Lists.{one_to}
use Rattle.hp_algebra.specs.Rows.{unit_row}
use Rattle.hp_arr.specs.Operations.{cone}
use Rattle.hp_flats.specs.Levels.{values_of}
use Rattle.hp_flats.proofs.values.unit_values.Given as goal

abbrev pub invariant-loop-k : goal.invariant-loop-k
invariant-loop-k g l = l.rows.items ≡ map (λ k. values_of g.K.Ring.ring (cone g.K.Ring.ring l.aff.dim l.aff.forms) (unit_row g.K.Ring.ring (l.aff.dim + 1) k)) (one_to l.k)
