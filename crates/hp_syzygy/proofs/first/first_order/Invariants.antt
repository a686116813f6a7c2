use Rattle.std.proofs.Common.{◌≡◌, map}
use Rattle.hp_lists.specs.Lists.{one_to}
use Rattle.hp_syzygy.specs.ChainOrders.{unit_term}
use Rattle.hp_syzygy.proofs.first.first_order.Given as goal

-- the components so far
abbrev pub invariant-loop-k : goal.invariant-loop-k
invariant-loop-k l = record {
  tops : l.tops.items ≡ map unit_term (one_to l.k);
  ranks : l.ranks.items ≡ one_to l.k;
}
