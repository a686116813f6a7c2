use Rattle.std.proofs.Common.{◌≡◌, take}
use Rattle.hp_groebner.proofs.terms_added.copies.Given as goal

abbrev pub invariant-loop-k : goal.invariant-loop-k
invariant-loop-k g l = l.copies.items ≡ take l.k l.entries
