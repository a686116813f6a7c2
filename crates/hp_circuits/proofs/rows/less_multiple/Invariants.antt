use Rattle.std.proofs.Common.{◌≡◌, ◌<◌, ℕ, length, get_or}
use Rattle.hp_circuits.proofs.rows.less_multiple.Given as goal

abbrev pub invariant-loop-k : goal.invariant-loop-k
invariant-loop-k g l =
    let ring = g.K.Ring.ring in
    record {
      long : length l.row.items ≡ l.k;
      done : (m : ℕ) (d : g.row.K.Denot) → m < l.k → get_or l.row.items m d ≡ ring.add (get_or l.w m d) (ring.mul l.factor (get_or l.v m d));
    }
