use Rattle.std.proofs.Common.{arith}
use Rattle.hp_sets.proofs.Words.{set-of_word, IsGreatest-word}
use Rattle.hp_sets.proofs.set.HSet.greatest.Goals as goal

pub returns-clause-greatest : goal.returns-clause-greatest
returns-clause-greatest c = IsGreatest-word c.self.inside.bits c.self.view_is (omega arith) c.self.invariant

pub returns-clause-set : goal.returns-clause-set
returns-clause-set c = set-of_word c.self.inside.bits c.self.view_is
