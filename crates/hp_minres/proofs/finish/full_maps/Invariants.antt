use Rattle.std.proofs.Common.{◌≤◌, ◌<◌, ℕ, length}
use Rattle.hp_minres.specs.Reductions.{rows_at}
use Rattle.hp_minres.proofs.finish.full_maps.Given as goal

abbrev pub invariant-loop-k : goal.invariant-loop-k
invariant-loop-k g l = (j : ℕ) → j < l.k → 1 ≤ length (rows_at l.maps j)
