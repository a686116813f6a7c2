use Rattle.std.proofs.Common.{sym, arith}
use Rattle.hp_sets.proofs.SetLaws.{contains-outside}
use Rattle.hp_sets.proofs.Words.{contains-word, set-of_word}
use Rattle.hp_sets.proofs.set.HSet.contains.Goals as goal

pub returns-in-1-to-64-clause-value : goal.returns-in-1-to-64-clause-value
returns-in-1-to-64-clause-value c = contains-word c.self.inside.bits c.args.i c.self.view_is (omega arith) (omega arith)

pub returns-in-1-to-64-clause-set : goal.returns-in-1-to-64-clause-set
returns-in-1-to-64-clause-set c = set-of_word c.self.inside.bits c.self.view_is

pub returns-in_default-clause-value : goal.returns-in_default-clause-value
returns-in_default-clause-value c = sym (contains-outside 64 c.args.self c.args.i (set-of_word c.self.inside.bits c.self.view_is) (λ r. omega (arith, r.0, r.1)))

pub returns-in_default-clause-set : goal.returns-in_default-clause-set
returns-in_default-clause-set c = set-of_word c.self.inside.bits c.self.view_is

pub returns-in_default-2-clause-value : goal.returns-in_default-2-clause-value
returns-in_default-2-clause-value c = sym (contains-outside 64 c.args.self c.args.i (set-of_word c.self.inside.bits c.self.view_is) (λ r. omega (arith, r.0, r.1)))

pub returns-in_default-2-clause-set : goal.returns-in_default-2-clause-set
returns-in_default-2-clause-set c = set-of_word c.self.inside.bits c.self.view_is
