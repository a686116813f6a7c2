use Rattle.std.proofs.Common.{◌≡◌, ◌-◌, map, filter, take}
use Rattle.std.specs.Prelude.{not}
use Rattle.hp_algebra.specs.Rows.{is_zero_row}
use Rattle.hp_arr.specs.Arrangement.{form}
use Rattle.hp_arr.specs.Operations.{first_copies, normalised, restricted_form}
use Rattle.hp_arr.proofs.affine.Aff.restricted_rows.Given as goal

abbrev pub invariant-loop-other : goal.invariant-loop-other
invariant-loop-other g l =
    l.kept.items ≡ first_copies g.K.Ring.ring (map (normalised g.K.Ring.ring g.K.Field.inverse)
    (filter (λ b. not (is_zero_row g.K.Ring.ring (take (l.self.dim - 1) b))) (map (restricted_form g.K.Ring.ring g.K.Field.inverse l.self.dim (form l.self l.i)) (take l.other-index l.others))))
