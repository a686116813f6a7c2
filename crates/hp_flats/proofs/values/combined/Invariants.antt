use Rattle.std.proofs.Common.{◌≡◌, ◌<◌, ℕ, length, get_or}
use Rattle.hp_flats.proofs.values.combined.Given as goal

abbrev pub invariant-loop-k : goal.invariant-loop-k
invariant-loop-k g l =
    let ring = g.K.Ring.ring in
    record {
      long : length l.sum.items ≡ l.k;
      done : (m : ℕ) (d : g.row.K.Denot) → m < l.k → get_or l.sum.items m d ≡ ring.add (ring.mul l.a (get_or l.x m d)) (ring.mul l.b (get_or l.y m d));
    }
