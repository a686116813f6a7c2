use Rattle.std.proofs.Common.{◌≡◌, ◌<◌, ℕ, List, length, get_or}
use Rattle.hp_algebra.specs.Rows.{IsRow, entry, row_plus}
use Rattle.hp_linear.specs.Spaces.{IsCombination}
use Rattle.hp_linear.specs.Echelon.{PivotRow, rows_of}
use Rattle.hp_linear.proofs.echelon.reduced.Given as goal

abbrev pub invariant-loop-p : goal.invariant-loop-p
invariant-loop-p g l =
    let ring = g.F.Ring.ring in
    let old = l.fn.row.items in
    record {
      row : IsRow ring (length old) l.row.items;
      zeros : (h : ℕ) (p : PivotRow g.row.F.Denot) → h < l.p-index → entry ring l.row.items (get_or l.kept h p).column ≡ ring.zero;
      same : (v : List g.row.F.Denot) × IsCombination ring (length old) (rows_of ring l.kept) v × (l.row.items ≡ row_plus ring old v);
    }
