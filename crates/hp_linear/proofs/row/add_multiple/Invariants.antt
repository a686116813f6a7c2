use Rattle.std.proofs.Common.{◌≡◌, ◌≤◌, ◌<◌, ℕ, length, get_or}
use Rattle.hp_linear.proofs.row.add_multiple.Given as goal

abbrev pub invariant-loop-k : goal.invariant-loop-k
invariant-loop-k g l =
    let ring = g.F.Ring.ring in
    record {
      long : length l.row ≡ length l.fn.row;
      done : (k : ℕ) (d : g.row.F.Denot) → k < l.k → get_or l.row k d ≡ ring.add (get_or l.fn.row k d) (ring.mul l.c (get_or l.other k d));
      rest : (k : ℕ) (d : g.row.F.Denot) → l.k ≤ k → k < length l.row → get_or l.row k d ≡ get_or l.fn.row k d;
    }
