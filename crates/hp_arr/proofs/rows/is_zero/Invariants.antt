use Rattle.std.proofs.Common.{◌≡◌, ℕ, ◌<◌, get_or, take}
use Rattle.hp_lists.specs.Lists.{list_all}
use Rattle.hp_arr.proofs.rows.is_zero.Given as goal

abbrev pub invariant-loop-entry : goal.invariant-loop-entry
invariant-loop-entry g l = record {
  values : (k : ℕ) (d : g.row.K.Denot) → k < l.entry-index → g.K.Ring.ring.IsValue (get_or l.row k d);
  zero : l.zero ≡ list_all g.K.Ring.ring.is_zero (take l.entry-index l.row);
}
