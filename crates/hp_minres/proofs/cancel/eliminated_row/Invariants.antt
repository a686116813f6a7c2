use Rattle.std.proofs.Common.{[], get_or, remove}
use Rattle.hp_minres.proofs.EliminatedRows.{IsEliminating}
use Rattle.hp_minres.proofs.cancel.eliminated_row.Given as goal

abbrev pub invariant-loop-j : goal.invariant-loop-j
invariant-loop-j g l =
    IsEliminating g.met.F.Ring.ring_laws g.met.F.CommRing.commutes (get_or l.fn.row l.c []) (remove l.fn.row l.c) l.others l.j l.entries.items
