use Rattle.std.proofs.Common.{◌≡◌, map, take}
use Rattle.hp_arr.specs.PointSearch.{constant_first}
use Rattle.hp_arr.proofs.affine.Aff.turned.Given as goal

abbrev pub invariant-loop-i : goal.invariant-loop-i
invariant-loop-i g l = l.turned.items ≡ map (constant_first g.K.Ring.ring l.self.dim) (take l.i l.self.forms)
