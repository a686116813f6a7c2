use Rattle.std.proofs.Common.{◌≡◌, [], get_or, map, remove}
use Rattle.hp_minres.specs.Reductions.{minus_multiple, pivot_row}
use Rattle.hp_minres.proofs.cancel.eliminated.Given as goal

abbrev pub invariant-loop-row : goal.invariant-loop-row
invariant-loop-row g l =
    l.left.items ≡ map (λ row. minus_multiple g.F.Ring.ring (get_or row l.c []) (remove row l.c)
    (pivot_row g.F.Ring.ring g.F.Field.inverse (get_or l.fn.rows l.fn.r []) l.c)) l.yielded
