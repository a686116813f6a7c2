use Rattle.std.proofs.Common.{◌≡◌, map}
use Rattle.hp_lists.specs.Lists.{one_to}
use Rattle.hp_arr.specs.Arrangement.{form}
use Rattle.hp_algebra.specs.Ring.{dot_of}
use Rattle.hp_arr.specs.Operations.{cone}
use Rattle.hp_flats.proofs.values.values_at.Given as goal

abbrev pub invariant-loop-j : goal.invariant-loop-j
invariant-loop-j g l = l.row.items ≡ map (λ j. dot_of g.K.Ring.ring (form (cone g.K.Ring.ring l.aff.dim l.aff.forms) j) l.point) (one_to l.j)
