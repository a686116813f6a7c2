use Rattle.std.proofs.Common.{◌≡◌, map, take}
use Rattle.hp_exterior.specs.Exterior.{ext_coefficient}
use Rattle.hp_aomoto.proofs.products.coefficients.Given as goal

abbrev pub invariant-loop-j : goal.invariant-loop-j
invariant-loop-j g l = record {
  made : l.row.items ≡ map (λ t. ext_coefficient g.K.Ring.ring l.x t) (take l.j l.sets);
}
