use Rattle.std.proofs.Common.{◌≡◌, ◌<◌, ℕ, get_or, length}
use Rattle.hp_syzygy.proofs.first.zeros.Given as goal

-- zeros so far
abbrev pub invariant-loop : goal.invariant-loop
invariant-loop l = record {
  long : length l.degrees.items ≡ l.counter;
  each : (j : ℕ) → j < l.counter → get_or l.degrees.items j 0 ≡ 0;
}
