use Rattle.std.proofs.Common.{◌≡◌, true, take}
use Rattle.hp_lists.specs.Lists.{list_all}
use Rattle.hp_session.specs.Multiplicities.{is_multiplicity}
use Rattle.hp_session.proofs.multiplicities.are_multiplicities.Given as goal

abbrev pub invariant-loop-n : goal.invariant-loop-n
invariant-loop-n l = list_all is_multiplicity (take l.n-index l.numbers) ≡ true
