use Rattle.std.proofs.Common.{◌≡◌, take}
use Rattle.hp_saito.specs.Freeness.{row_values}
use Rattle.hp_saito.proofs.freeness.row_values.Given as goal

abbrev pub invariant-loop-k : goal.invariant-loop-k
invariant-loop-k g l = l.values.items ≡ row_values g.F.Ring.ring l.point (take l.k l.row)
