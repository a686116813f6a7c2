use Rattle.std.proofs.Common.{◌≤◌, ◌++◌, ◌-◌, List, drop, length, take}
use Rattle.hp_module.specs.Vectors.{IsKept, IsKeptAfter, Vector}
use Rattle.hp_der.proofs.DegreeRanges.{IsFirst}
use Rattle.hp_der.proofs.minimal.min_gens.Given as goal

abbrev pub invariant-loop-start : goal.invariant-loop-start
invariant-loop-start g l = record {
  within : l.start ≤ length l.basis.members;
  first : IsFirst l.leads (length l.basis.members) l.start;
  kept : (rest : List (Vector g.row.F.Denot))
      → IsKeptAfter g.F.Ring.ring l.basis.width (take l.start l.basis.members) (drop l.start l.basis.members) rest
      → IsKept g.F.Ring.ring l.basis.width l.basis.members (l.kept.items ++ rest);
}

abbrev pub decreases-loop-start : goal.decreases-loop-start
decreases-loop-start g l = length l.basis.members - l.start
