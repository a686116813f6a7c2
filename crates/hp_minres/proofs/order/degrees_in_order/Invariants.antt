use Rattle.std.proofs.Common.{◌≡◌, take}
use Rattle.hp_minres.specs.Reductions.{degrees_in}
use Rattle.hp_minres.proofs.order.degrees_in_order.Given as goal

abbrev pub invariant-loop-i : goal.invariant-loop-i
invariant-loop-i l = l.sorted.items ≡ degrees_in l.degrees (take l.i-index l.order)
