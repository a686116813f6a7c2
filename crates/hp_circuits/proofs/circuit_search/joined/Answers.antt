use Rattle.std.proofs.Common.{◌∙◌}
use Rattle.hp_circuits.proofs.CircuitLoops.{with_member-end}
use Rattle.hp_circuits.proofs.circuit_search.joined.Goals as goal

pub returns : goal.returns
returns c = c.with.ensures.value ∙ with_member-end c.args.set c.args.name c.len-members.ensures.set (c.requires.low, c.requires.high) c.requires.above
