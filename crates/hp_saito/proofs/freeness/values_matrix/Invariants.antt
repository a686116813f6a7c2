use Rattle.std.proofs.Common.{◌≡◌, map, take}
use Rattle.hp_saito.specs.Freeness.{row_values}
use Rattle.hp_saito.proofs.freeness.values_matrix.Given as goal

abbrev pub invariant-loop-k : goal.invariant-loop-k
invariant-loop-k g l =
    map (λ v. v.items) l.values.items ≡ map (row_values g.F.Ring.ring l.point) (take l.k l.rows.rows)
