use Rattle.std.proofs.Common.{◌≡◌, ℕ, ◌<◌, ◌≤◌, get_or, length}
use Rattle.hp_arr.proofs.restriction.last_entry.Given as goal

abbrev pub invariant-loop-k : goal.invariant-loop-k
invariant-loop-k g l = (j : ℕ) → l.k ≤ j → j < length l.row → get_or l.row j g.K.Ring.ring.zero ≡ g.K.Ring.ring.zero
