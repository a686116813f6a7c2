use Rattle.std.proofs.Common.{◌≡◌, ◌<◌, ℕ, get_or}
use Rattle.hp_linear.proofs.row.leading.Given as goal

abbrev pub invariant-loop-j : goal.invariant-loop-j
invariant-loop-j g l = (k : ℕ) (d : g.row.F.Denot) → k < l.j → get_or l.row k d ≡ g.F.Ring.ring.zero
