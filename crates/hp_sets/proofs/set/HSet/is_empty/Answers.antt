use Rattle.hp_sets.proofs.Words.{set-of_word}
use Rattle.hp_sets.proofs.set.HSet.is_empty.Goals as goal

pub returns-clause-set : goal.returns-clause-set
returns-clause-set c = set-of_word c.self.inside.bits c.self.view_is
