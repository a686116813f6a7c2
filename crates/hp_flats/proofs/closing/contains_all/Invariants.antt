use Rattle.std.proofs.Common.{◌≡◌, true, take}
use Rattle.hp_lists.specs.Lists.{list_all}
use Rattle.hp_algebra.specs.Ring.{dot_of}
use Rattle.hp_arr.specs.Arrangement.{form}
use Rattle.hp_flats.proofs.closing.contains_all.Given as goal

-- the row is zero at the points so far
abbrev pub invariant-loop-point : goal.invariant-loop-point
invariant-loop-point g l = list_all (λ x. g.K.Ring.ring.is_zero (dot_of g.K.Ring.ring (form l.aff l.j) x.items)) (take l.point-index l.points) ≡ true
