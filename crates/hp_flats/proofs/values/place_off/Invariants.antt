use Rattle.std.proofs.Common.{◌≡◌, ◌<◌, ℕ, List, get_or}
use Rattle.hp_flats.specs.Levels.{at_form}
use Rattle.hp_flats.proofs.values.place_off.Given as goal

-- form j is zero at the points so far
abbrev pub invariant-loop-q : goal.invariant-loop-q
invariant-loop-q g l = (k : ℕ) (d : List g.row.K.Denot) → k < l.q → at_form g.K.Ring.ring l.j (get_or l.rows k d) ≡ g.K.Ring.ring.zero
