use Rattle.std.proofs.Common.{◌≡◌, ◌-◌, flat_map}
use Rattle.std.specs.List.{range_with_len}
use Rattle.hp_build.proofs.ListedPairs.{pairs_from}
use Rattle.hp_build.proofs.pairs.pairs.Given as goal

abbrev pub invariant-loop-i : goal.invariant-loop-i
invariant-loop-i l = l.found.items ≡ flat_map (pairs_from l.l) (range_with_len 1 (l.i - 1))
