use Rattle.std.proofs.Common.{◌++◌, [], ◌∷◌, take}
use Rattle.hp_arr.specs.PointSearch.{NoneClosed}
use Rattle.hp_arr.proofs.point_search.closes_any.Given as goal

abbrev pub invariant-loop-i : goal.invariant-loop-i
invariant-loop-i g l = NoneClosed g.K.Ring.ring (l.prefix ++ l.v ∷ []) (take l.i l.forms)
