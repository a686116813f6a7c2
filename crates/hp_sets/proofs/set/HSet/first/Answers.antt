use Rattle.hp_sets.proofs.Words.{members-set}
use Rattle.hp_sets.proofs.set.HSet.first.Goals as goal

pub returns-clause-set : goal.returns-clause-set
returns-clause-set c = members-set _
