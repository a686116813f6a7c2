use Rattle.std.proofs.Common.{◌≡◌, ◌+◌, map, take}
use Rattle.hp_linear.proofs.echelon.numbers_of.Given as goal

abbrev pub invariant-loop-p : goal.invariant-loop-p
invariant-loop-p g l = l.numbers.items ≡ map (λ p. p.column + 1) (take l.p-index l.kept)
