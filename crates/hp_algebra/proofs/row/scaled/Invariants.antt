use Rattle.std.proofs.Common.{◌≡◌, ◌≤◌, ◌<◌, ℕ, length, get_or}
use Rattle.hp_algebra.proofs.row.scaled.Given as goal

abbrev pub invariant-loop-k : goal.invariant-loop-k
invariant-loop-k g l =
    let ring = g.F.Ring.ring in
    record {
      long : length l.row.items ≡ length l.fn.row.items;
      done : (k : ℕ) (d : g.row.F.Denot) → k < l.k → get_or l.row.items k d ≡ ring.mul l.c (get_or l.fn.row.items k d);
      rest : (k : ℕ) (d : g.row.F.Denot) → l.k ≤ k → k < length l.row.items → get_or l.row.items k d ≡ get_or l.fn.row.items k d;
    }
