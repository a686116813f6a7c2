use Rattle.std.proofs.Common.{ℕ, ◌<◌, ◌++◌, [], ◌∷◌, Any}
use Rattle.hp_arr.specs.PointSearch.{IsClosed}
use Rattle.hp_arr.proofs.point_search.next_coordinate.Given as goal

abbrev pub invariant-loop-k : goal.invariant-loop-k
invariant-loop-k g l = (w : ℕ) → w < l.k → Any (IsClosed g.K.Ring.ring (l.prefix ++ g.K.FiniteField.numbers.nth w ∷ [])) l.forms
