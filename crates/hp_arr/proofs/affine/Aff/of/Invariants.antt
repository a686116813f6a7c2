use Rattle.std.proofs.Common.{◌≡◌, [], ◌∷◌, ◌++◌, map, take}
use Rattle.hp_arr.proofs.affine.Aff.of.Given as goal

abbrev pub invariant-loop-i : goal.invariant-loop-i
invariant-loop-i g l = l.rows.items ≡ map (λ f. f ++ g.K.Ring.ring.zero ∷ []) (take l.i l.arr.forms)
