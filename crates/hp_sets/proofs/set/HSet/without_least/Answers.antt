use Rattle.std.proofs.Common.{sym, ◌∙◌}
use Rattle.hp_sets.proofs.Places.{without-least}
use Rattle.hp_sets.proofs.set.HSet.without_least.Goals as goal

pub returns-in-Some : goal.returns-in-Some
returns-in-Some c = c.without.ensures.value ∙ without-least c.args.self c.in-Some.i c.least.ensures.set (sym c.in-Some.ensures.value)
