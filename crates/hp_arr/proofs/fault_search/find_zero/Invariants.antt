use Rattle.std.proofs.Common.{◌≡◌, ℕ, ◌<◌, ◌≤◌, List, false, All, get_or}
use Rattle.hp_algebra.specs.Rows.{is_zero_row}
use Rattle.hp_arr.specs.FormFaults.{row}
use Rattle.hp_arr.proofs.fault_search.find_zero.Given as goal

abbrev pub invariant-loop-k : goal.invariant-loop-k
invariant-loop-k g l = record {
  nonzero : (h : ℕ) → 1 ≤ h → h ≤ l.k → is_zero_row g.K.Ring.ring (row l.forms h) ≡ false;
  values : (k : ℕ) (d : List g.row.K.Denot) → k < l.k → All g.K.Ring.ring.IsValue (get_or l.forms k d);
}
