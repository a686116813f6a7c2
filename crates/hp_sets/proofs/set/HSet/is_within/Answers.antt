use Rattle.hp_sets.proofs.Words.{set-of_word}
use Rattle.hp_sets.proofs.set.HSet.is_within.Goals as goal

pub returns-clause-set : goal.returns-clause-set
returns-clause-set c = set-of_word c.self.inside.bits c.self.view_is

pub returns-clause-other_set : goal.returns-clause-other_set
returns-clause-other_set c = set-of_word c.other.inside.bits c.other.view_is
