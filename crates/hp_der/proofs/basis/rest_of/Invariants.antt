use Rattle.std.proofs.Common.{◌≡◌, take}
use Rattle.hp_der.proofs.basis.rest_of.Given as goal

abbrev pub invariant-loop-k : goal.invariant-loop-k
invariant-loop-k g l = l.rest.items ≡ take l.k l.entries
