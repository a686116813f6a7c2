use Rattle.std.proofs.Common.{◌≡◌, map, take}
use Rattle.hp_session.specs.Multiplicities.{multiplicity}
use Rattle.hp_session.proofs.multiplicities.taken.Given as goal

abbrev pub invariant-loop-n : goal.invariant-loop-n
invariant-loop-n l = l.taken.items ≡ map multiplicity (take l.n-index l.numbers)
