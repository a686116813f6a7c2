use Rattle.std.proofs.Common.{◌≡◌, take, zip}
use Rattle.hp_session.proofs.graded.graded.Given as goal

abbrev pub invariant-loop-k : goal.invariant-loop-k
invariant-loop-k g l = l.graded.items ≡ zip (take l.k l.degrees) (take l.k l.vectors)
