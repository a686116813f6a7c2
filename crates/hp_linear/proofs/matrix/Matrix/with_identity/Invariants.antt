use Rattle.std.proofs.Common.{◌≡◌, ◌+◌, ◌<◌, ◌++◌, [], ℕ, length, get_or, Vec, Global}
use Rattle.hp_algebra.specs.Rows.{unit_row}
use Rattle.hp_linear.proofs.matrix.Matrix.with_identity.Given as goal

abbrev pub invariant-loop-k : goal.invariant-loop-k
invariant-loop-k g l = record {
  long : length l.rows.items ≡ l.k;
  each : (h : ℕ) (d : Vec g.row.F.Denot Global) → h < l.k → (get_or l.rows.items h d).items ≡ get_or l.self.rows h [] ++ unit_row g.F.Ring.ring l.cols (h + 1);
}
