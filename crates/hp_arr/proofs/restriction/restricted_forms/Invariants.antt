use Rattle.std.proofs.Common.{◌≡◌, length, map, take}
use Rattle.hp_arr.specs.Operations.{first_copies, normalised, restricted_form}
use Rattle.hp_arr.proofs.restriction.restricted_forms.Given as goal

abbrev pub invariant-loop-other : goal.invariant-loop-other
invariant-loop-other g l =
    l.kept.items ≡ first_copies g.K.Ring.ring (map (λ b. normalised g.K.Ring.ring g.K.Field.inverse (restricted_form g.K.Ring.ring g.K.Field.inverse (length l.a) l.a b)) (take l.other-index l.others))
