use Rattle.std.proofs.Common.{◌≡◌, ◌-◌, ◌+◌, ◌++◌, [], get_or, map}
use Rattle.hp_lists.specs.Lists.{range_with_len}
use Rattle.hp_mono.specs.Monomials.{one}
use Rattle.hp_poly.specs.Polynomials.{coefficient_of}
use Rattle.hp_der.proofs.prepared.constant_row.Given as goal

abbrev pub invariant-loop-c : goal.invariant-loop-c
invariant-loop-c g l =
    l.row.items ≡ [] ++ map (λ c. coefficient_of g.F.Ring.ring (get_or l.quotients (l.stop - (c + 1)) []) one) (range_with_len 0 l.c)
