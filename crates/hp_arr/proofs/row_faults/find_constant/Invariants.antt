use Rattle.std.proofs.Common.{◌≡◌, ℕ, ◌<◌, ◌≤◌, List, false, All, get_or, take}
use Rattle.hp_algebra.specs.Rows.{is_zero_row}
use Rattle.hp_arr.specs.FormFaults.{row}
use Rattle.hp_arr.proofs.row_faults.find_constant.Given as goal

abbrev pub invariant-loop-k : goal.invariant-loop-k
invariant-loop-k g l = record {
  nonzero : (h : ℕ) → 1 ≤ h → h ≤ l.k → is_zero_row g.K.Ring.ring (take l.l (row l.rows h)) ≡ false;
  values : (k : ℕ) (d : List g.row.K.Denot) → k < l.k → All g.K.Ring.ring.IsValue (get_or l.rows k d);
}
