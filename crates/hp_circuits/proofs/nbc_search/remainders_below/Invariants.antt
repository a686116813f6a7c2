use Rattle.std.proofs.Common.{◌≡◌, IsFalse, All, map, take}
use Rattle.hp_algebra.specs.Rows.{IsRow, is_zero_row}
use Rattle.hp_circuits.specs.RowSteps.{reduced}
use Rattle.hp_circuits.proofs.nbc_search.remainders_below.Given as goal

-- the rows so far are reduced, and none became zero
abbrev pub invariant-loop-k : goal.invariant-loop-k
invariant-loop-k g l =
    let ring = g.K.Ring.ring in
    record {
      made : l.below.items ≡ map (reduced ring g.K.Field.inverse l.place l.top) (take l.k l.rows);
      rows : All (IsRow ring l.arr.dim) l.below.items;
      nonzero : All (λ row. IsFalse (is_zero_row ring row)) l.below.items;
    }
