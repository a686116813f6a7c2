use Rattle.std.proofs.Common.{◌≡◌, ◌≢◌, ◌<◌, ℕ, get_or}
use Rattle.hp_algebra.specs.Rows.{IsRow, entry}
use Rattle.hp_linear.specs.Echelon.{PivotRow}
use Rattle.hp_linear.proofs.kernel.free_solution.Given as goal

abbrev pub invariant-loop-p : goal.invariant-loop-p
invariant-loop-p g l =
    let ring = g.F.Ring.ring in
    record {
      is_row : IsRow ring l.width l.c.items;
      one : entry ring l.c.items l.free ≡ ring.one;
      at_pivots : (h : ℕ) (d : PivotRow g.row.F.Denot) → h < l.p-index → entry ring l.c.items (get_or l.kept h d).column ≡ ring.neg (entry ring (get_or l.kept h d).entries l.free);
      elsewhere : (j : ℕ) → j < l.width → j ≢ l.free → ((h : ℕ) (d : PivotRow g.row.F.Denot) → h < l.p-index → (get_or l.kept h d).column ≢ j) → entry ring l.c.items j ≡ ring.zero;
    }
