use Rattle.std.proofs.Common.{◌≡◌, map}
use Rattle.hp_lists.specs.Lists.{below}
use Rattle.hp_session.specs.ResolutionAnswers.{resolved_map}
use Rattle.hp_session.proofs.graded.resolved.Given as goal

abbrev pub invariant-loop-k : goal.invariant-loop-k
invariant-loop-k g l = l.maps.items ≡ map (resolved_map l.res) (below l.k)
