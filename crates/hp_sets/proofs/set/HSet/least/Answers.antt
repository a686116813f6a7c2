use Rattle.std.proofs.Common.{arith}
use Rattle.hp_sets.proofs.Words.{set-of_word, IsLeast-word}
use Rattle.hp_sets.proofs.set.HSet.least.Goals as goal

pub returns-clause-least : goal.returns-clause-least
returns-clause-least c = IsLeast-word c.self.inside.bits c.self.view_is (omega arith) c.self.invariant

pub returns-clause-set : goal.returns-clause-set
returns-clause-set c = set-of_word c.self.inside.bits c.self.view_is
