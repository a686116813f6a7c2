use Rattle.std.proofs.lemmas.Nat.{or_lt}
use Rattle.hp_sets.proofs.Words.{members-set}
use Rattle.hp_sets.proofs.set.HSet.union.Goals as goal

pub invariant_of-result : goal.invariant_of-result
invariant_of-result c = or_lt 64 c.self.inside.bits c.other.inside.bits c.self.invariant c.other.invariant

pub returns-clause-set : goal.returns-clause-set
returns-clause-set c = members-set _
