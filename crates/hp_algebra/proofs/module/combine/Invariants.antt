use Rattle.std.proofs.Common.{◌≡◌, ◌≤◌, All, length, drop}
use Rattle.hp_algebra.specs.Modules.{combination_of}
use Rattle.hp_algebra.proofs.module.combine.Given as goal

abbrev pub invariant-loop-k : goal.invariant-loop-k
invariant-loop-k g l =
    let vectors = g.M.Module.vectors in
    record {
      within : l.k ≤ length l.c;
      scalars : All g.R.Ring.ring.IsValue (drop l.k l.c);
      values : All vectors.IsValue (drop l.k l.v);
      value : l.sum ≡ combination_of vectors l.width (drop l.k l.c) (drop l.k l.v);
      answer : vectors.IsValue l.sum;
      wide : vectors.width l.sum ≡ l.width;
    }
