use Rattle.std.proofs.Common.{◌↔◌, ◌⊎◌, ◌<◌, ℕ, Contains}
use Rattle.hp_sets.specs.Sets.{IsSetWithin}
use Rattle.hp_flats.specs.Levels.{IsParallelFrom}
use Rattle.hp_flats.proofs.values.with_parallel.Given as goal

-- of the class those below k are found
abbrev pub invariant-loop-k : goal.invariant-loop-k
invariant-loop-k g l = record {
  set : IsSetWithin l.to l.found;
  members : (m : ℕ) → Contains l.found m ↔ (Contains l.fn.set m ⊎ (IsParallelFrom g.K.Ring.ring l.rows l.covered l.q l.i l.from l.to m × (m < l.k)));
}
