use Rattle.std.proofs.Common.{◌≡◌, List, All, length}
use Rattle.hp_algebra.specs.Rows.{IsRow}
use Rattle.hp_arr.specs.PointSearch.{NoneClosed}
use Rattle.hp_arr.proofs.LeastPoint.{IsOff, NoLater}
use Rattle.hp_arr.proofs.arrangement.Arr.least_point_off.Given as goal

abbrev pub invariant-loop : goal.invariant-loop
invariant-loop g l = record {
  count : length l.point.items ≡ l.counter;
  values : All g.K.Ring.ring.IsValue l.point.items;
  none_closed : NoneClosed g.K.Ring.ring l.point.items l.self.forms;
  earliest : (y : List g.row.K.Denot) → IsRow g.K.Ring.ring l.self.dim y → IsOff g.K.Ring.ring l.self.forms y → NoLater g.K.FiniteField.numbers l.point.items y;
}
