use Rattle.std.proofs.Common.{sym}
use Rattle.hp_sets.proofs.SetLaws.{contains-Contains, set_members}
use Rattle.hp_sets.proofs.SetWithin.{without-none}
use Rattle.hp_sets.proofs.set.HSet.without.Goals as goal

pub single-requires-clause-low : goal.single-requires-clause-low
single-requires-clause-low c = (set_members 64 c.args.self c.args.i c.contains.ensures.set (contains-Contains c.args.self c.args.i (sym c.if-contains.ensures.value))).0

pub single-requires-clause-high : goal.single-requires-clause-high
single-requires-clause-high c = (set_members 64 c.args.self c.args.i c.contains.ensures.set (contains-Contains c.args.self c.args.i (sym c.if-contains.ensures.value))).1

pub returns-else-contains-clause-value : goal.returns-else-contains-clause-value
returns-else-contains-clause-value c = sym (without-none c.args.self c.args.i c.contains.ensures.set (sym c.if-contains.ensures.value))
