use Rattle.std.proofs.Common.{◌≡◌, [], map, take, get_or}
use Rattle.hp_minres.proofs.start.entries_in_order.Given as goal

abbrev pub invariant-loop-j : goal.invariant-loop-j
invariant-loop-j g l = l.entries.items ≡ map (λ j. get_or l.row j []) (take l.j-index l.columns)
