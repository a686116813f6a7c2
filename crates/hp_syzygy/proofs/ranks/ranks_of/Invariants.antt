use Rattle.std.proofs.Common.{◌≡◌, length}
use Rattle.hp_syzygy.proofs.SortedKeys.{AreGiven}
use Rattle.hp_syzygy.proofs.ranks.ranks_of.Given as goal

-- the ranks so far
abbrev pub invariant-loop-k : goal.invariant-loop-k
invariant-loop-k g l = record {
  count : length l.ranks.items ≡ length l.level.leads;
  given : AreGiven l.keys.items l.k l.ranks.items;
}
