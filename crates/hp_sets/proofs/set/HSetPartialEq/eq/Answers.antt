use Rattle.hp_sets.proofs.Words.{eq-words, same-words}
use Rattle.hp_sets.proofs.set.HSetPartialEq.eq.Goals as goal

pub returns-clause-value : goal.returns-clause-value
returns-clause-value c = eq-words c.self.inside.bits c.other.inside.bits c.self.invariant c.other.invariant c.self.view_is c.other.view_is

pub returns-clause-same : goal.returns-clause-same
returns-clause-same c = same-words c.self.inside.bits c.other.inside.bits c.self.invariant c.other.invariant c.self.view_is c.other.view_is
