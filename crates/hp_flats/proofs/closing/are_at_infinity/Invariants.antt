use Rattle.std.proofs.Common.{◌≡◌, true, take}
use Rattle.hp_lists.specs.Lists.{list_all}
use Rattle.hp_algebra.specs.Rows.{entry}
use Rattle.hp_flats.proofs.closing.are_at_infinity.Given as goal

abbrev pub invariant-loop-point : goal.invariant-loop-point
invariant-loop-point g l = list_all (λ x. g.K.Ring.ring.is_zero (entry g.K.Ring.ring x.items l.dim)) (take l.point-index l.points) ≡ true
