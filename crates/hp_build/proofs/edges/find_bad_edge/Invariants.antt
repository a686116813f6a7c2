use Rattle.std.proofs.Common.{◌≡◌, ◌-◌, ◌<◌, ◌≤◌, ℕ, false, take, slice_index_or}
use Rattle.hp_build.specs.Graphs.{is_bad_edge}
use Rattle.hp_build.proofs.edges.find_bad_edge.Given as goal

abbrev pub invariant-loop-k : goal.invariant-loop-k
invariant-loop-k l = (h : ℕ) → 1 ≤ h → h < l.k → is_bad_edge l.v (take (h - 1) l.edges) (slice_index_or l.edges (h - 1) (0, 0)) ≡ false
