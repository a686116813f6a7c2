use Rattle.std.proofs.Common.{◌≡◌, map}
use Rattle.hp_lists.specs.Lists.{below}
use Rattle.hp_syzygy.specs.MemberRanks.{member_key}
use Rattle.hp_syzygy.proofs.ranks.sorted_keys.Given as goal

-- the keys so far
abbrev pub invariant-loop-i : goal.invariant-loop-i
invariant-loop-i g l = l.keys.items ≡ map (member_key l.level) (below l.i)
