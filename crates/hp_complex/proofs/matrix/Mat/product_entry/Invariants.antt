use Rattle.std.proofs.Common.{◌≡◌, ◌≤◌, length}
use Rattle.hp_complex.proofs.MatrixProducts.{column_sum}
use Rattle.hp_complex.proofs.matrix.Mat.product_entry.Given as goal

abbrev pub invariant-loop-k : goal.invariant-loop-k
invariant-loop-k g l = record {
  within : l.k ≤ length l.c;
  value : l.sum ≡ column_sum g.R.Ring.ring l.c l.self.rows l.j l.k;
  answer : g.R.Ring.ring.IsValue l.sum;
}
