use Rattle.std.proofs.Common.{◌≡◌, ◌-◌, map, take}
use Rattle.hp_algebra.specs.Rows.{entry}
use Rattle.hp_poly.specs.Polynomials.{constant}
use Rattle.hp_der.proofs.generators.column.Given as goal

abbrev pub invariant-loop-i : goal.invariant-loop-i
invariant-loop-i g l =
    l.entries.items ≡ map (λ a. constant g.K.Ring.ring (entry g.K.Ring.ring a (l.j - 1))) (take l.i l.arr.forms)
