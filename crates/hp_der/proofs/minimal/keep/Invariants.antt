use Rattle.std.proofs.Common.{◌++◌, List, drop, take}
use Rattle.hp_module.specs.Vectors.{IsKept, IsKeptAfter, Vector}
use Rattle.hp_der.proofs.minimal.keep.Given as goal

abbrev pub invariant-loop-i : goal.invariant-loop-i
invariant-loop-i g l =
    (rest : List (Vector g.row.F.Denot))
    → IsKeptAfter g.F.Ring.ring l.basis.width (take l.i l.members) (drop l.i l.members) rest
    → IsKept g.F.Ring.ring l.basis.width l.members (l.kept.items ++ rest)
