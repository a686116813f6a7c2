use Rattle.std.proofs.Common.{◌≤◌, length, drop}
use Rattle.hp_linear.specs.Spaces.{HaveSameSpan}
use Rattle.hp_linear.specs.Echelon.{IsReduced, rows_of}
use Rattle.hp_linear.proofs.matrix.Matrix.eliminate.Given as goal

abbrev pub invariant-loop-k : goal.invariant-loop-k
invariant-loop-k g l =
    let ring = g.F.Ring.ring in
    record {
      within : l.k ≤ length l.self.rows;
      reduced : IsReduced ring l.self.cols l.kept.items;
      span : HaveSameSpan ring l.self.cols (drop l.k l.self.rows) (rows_of ring l.kept.items);
    }
