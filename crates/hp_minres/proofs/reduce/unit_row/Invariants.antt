use Rattle.std.proofs.Common.{◌≡◌, ◌<◌, ℕ, [], get_or}
use Rattle.hp_minres.proofs.reduce.unit_row.Given as goal

abbrev pub invariant-loop-r : goal.invariant-loop-r
invariant-loop-r g l = (i : ℕ) → i < l.r → get_or l.degrees i 0 ≡ l.d → get_or (get_or l.rows i []) l.c [] ≡ []
