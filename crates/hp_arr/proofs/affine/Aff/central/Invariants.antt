use Rattle.std.proofs.Common.{◌≡◌, map, take}
use Rattle.hp_arr.proofs.affine.Aff.central.Given as goal

abbrev pub invariant-loop-i : goal.invariant-loop-i
invariant-loop-i g l = l.forms.items ≡ map (take l.dim) (take l.i l.self.forms)
