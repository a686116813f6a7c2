use Rattle.std.proofs.Common.{◌≡◌, ◌-◌, filter}
use Rattle.hp_lists.specs.Lists.{list_all, one_to}
use Rattle.hp_algebra.specs.Ring.{dot_of}
use Rattle.hp_arr.specs.Arrangement.{form}
use Rattle.hp_flats.proofs.closing.containing.Given as goal

-- those below j are found
abbrev pub invariant-loop-j : goal.invariant-loop-j
invariant-loop-j g l = l.found ≡ filter (λ i. list_all (λ x. g.K.Ring.ring.is_zero (dot_of g.K.Ring.ring (form l.aff i) x.items)) l.points) (one_to (l.j - 1))
