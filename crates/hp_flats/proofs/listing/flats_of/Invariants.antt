use Rattle.std.proofs.Common.{◌≡◌, map, take}
use Rattle.hp_flats.specs.declared.levels.Covered.{Covered}
use Rattle.hp_flats.proofs.listing.flats_of.Given as goal

abbrev pub invariant-loop-one : goal.invariant-loop-one
invariant-loop-one l = l.flats.items ≡ map (λ (c : Covered). c.flat) (take l.one-index l.covered)
