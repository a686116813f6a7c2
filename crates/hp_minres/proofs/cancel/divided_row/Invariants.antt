use Rattle.std.proofs.Common.{◌≡◌, map, take}
use Rattle.hp_poly.specs.Polynomials.{poly_times}
use Rattle.hp_minres.proofs.cancel.divided_row.Given as goal

abbrev pub invariant-loop-k : goal.invariant-loop-k
invariant-loop-k g l = l.divided.items ≡ map (poly_times g.F.Ring.ring l.inverse-inside.terms.items) (take l.k l.entries.items)
