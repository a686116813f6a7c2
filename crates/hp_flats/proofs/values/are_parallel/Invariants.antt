use Rattle.std.proofs.Common.{◌≡◌, ◌<◌, ℕ, List, get_or}
use Rattle.hp_flats.specs.Levels.{at_form}
use Rattle.hp_flats.proofs.values.are_parallel.Given as goal

-- the cross products at the points so far are equal
abbrev pub invariant-loop-row : goal.invariant-loop-row
invariant-loop-row g l =
    (k : ℕ) (d : List g.row.K.Denot) → k < l.row-index → g.K.Ring.ring.mul l.of_i (at_form g.K.Ring.ring l.j (get_or l.rows k d)) ≡ g.K.Ring.ring.mul l.of_j (at_form g.K.Ring.ring l.i (get_or l.rows k d))
