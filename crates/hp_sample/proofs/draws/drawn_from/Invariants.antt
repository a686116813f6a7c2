use Rattle.std.proofs.Common.{drop}
use Rattle.hp_sample.proofs.Drawing.{IsLeft}
use Rattle.hp_sample.proofs.draws.drawn_from.Given as goal

abbrev pub invariant-loop-a : goal.invariant-loop-a
invariant-loop-a l = IsLeft l.fn.pairs l.fn.state l.edges.items (drop l.a-index l.pairs) l.state
