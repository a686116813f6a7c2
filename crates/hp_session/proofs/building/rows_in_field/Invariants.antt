use Rattle.std.proofs.Common.{◌≡◌, map, take}
use Rattle.hp_algebra.specs.Ring.{integer}
use Rattle.hp_session.proofs.building.rows_in_field.Given as goal

abbrev pub invariant-loop-row : goal.invariant-loop-row
invariant-loop-row g l = map (λ form. form.items) l.forms.items ≡ map (map (integer g.K.Ring.ring)) (take l.row-index l.rows)
