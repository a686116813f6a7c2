use Rattle.std.proofs.Common.{◌≡◌, cond, eqb, map}
use Rattle.hp_lists.specs.Lists.{one_to}
use Rattle.hp_algebra.proofs.row.unit_row.Given as goal

abbrev pub invariant-loop-k : goal.invariant-loop-k
invariant-loop-k g l = l.row.items ≡ map (λ k. cond (eqb k l.i) g.F.Ring.ring.one g.F.Ring.ring.zero) (one_to l.k)
