-- When an arrangement of a family can't be built.
use Rattle.std.specs.Prelude.{◌≡◌, ℕ, List, Some, None}
use Rattle.hp_algebra.specs.Ring.{RingOf, Numbering}
use Rattle.hp_arr.specs.Arrangement.{Arrangement}
use Rattle.hp_arr.specs.FormFaults.{too_many_fault}
use Rattle.hp_arr.specs.declared.fault.ArrFault.TheVariants as fault
use Rattle.hp_build.specs.Families.{graphic}
use Rattle.hp_build.specs.Graphs.{bad_edge}
use Rattle.hp_build.specs.declared.fault.BuildFault.{BuildFault}
use Rattle.hp_build.specs.declared.fault.BuildFault.TheVariants.{TooMany, Memory}
use Rattle.hp_build.specs.declared.fault.GraphFault.{GraphFault}
use Rattle.hp_build.specs.declared.fault.GraphFault.TheVariants as graph

-- the forms are too many; memory may be out at any time
abbrev pub IsBuildFault : {K : Type 0} → Numbering K → Arrangement K → BuildFault → Type 0
IsBuildFault numbers arr (TooMany n) = too_many_fault numbers arr.forms ≡ Some (fault.TooMany n)
IsBuildFault numbers arr Memory = Unit {0}

-- this edge is the first bad one, or none is bad and the forms are too many
abbrev pub IsGraphFault : {K : Type 0} → RingOf K → Numbering K → ℕ → List (ℕ × ℕ) → GraphFault → Type 0
IsGraphFault ring numbers v edges (graph.BadGraph k) = bad_edge v edges ≡ Some k
IsGraphFault ring numbers v edges (graph.TooMany n) = (bad_edge v edges ≡ None) × (too_many_fault numbers (graphic ring v edges).forms ≡ Some (fault.TooMany n))
IsGraphFault ring numbers v edges graph.Memory = Unit {0}
