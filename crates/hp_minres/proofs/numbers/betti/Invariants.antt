use Rattle.std.proofs.Common.{◌≡◌, map, take}
use Rattle.hp_resolution.specs.Resolutions.{degree_counts}
use Rattle.hp_minres.proofs.numbers.betti.Given as goal

abbrev pub invariant-loop-degrees : goal.invariant-loop-degrees
invariant-loop-degrees g l = map (λ numbers. numbers.items) l.numbers.items ≡ map degree_counts (take l.degrees-index l.all)
