use Rattle.std.proofs.Common.{◌≡◌, ◌+◌, ◌∷◌, List, All, length, drop}
use Rattle.hp_algebra.specs.Rows.{IsRow}
use Rattle.hp_arr.specs.PointSearch.{NoneClosed}
use Rattle.hp_arr.proofs.LeastPoint.{IsOff, NoLater}
use Rattle.hp_arr.proofs.affine.Aff.least_point_off.Given as goal

abbrev pub invariant-loop : goal.invariant-loop
invariant-loop g l = record {
  count : length l.point.items ≡ l.counter + 1;
  begins : l.point.items ≡ g.K.Ring.ring.one ∷ drop 1 l.point.items;
  values : All g.K.Ring.ring.IsValue l.point.items;
  none_closed : NoneClosed g.K.Ring.ring l.point.items l.turned.items;
  earliest : (y : List g.row.K.Denot) → IsRow g.K.Ring.ring l.dim y → IsOff g.K.Ring.ring l.turned.items (g.K.Ring.ring.one ∷ y) → NoLater g.K.FiniteField.numbers l.point.items (g.K.Ring.ring.one ∷ y);
}
