use Rattle.std.proofs.Common.{sym, ◌∙◌}
use Rattle.hp_arr.proofs.AffineFaultless.{zero-whole}
use Rattle.hp_arr.proofs.row_faults.find_row_fault.Goals as goal

pub find_repeated-requires-clause-nonzero : goal.find_repeated-requires-clause-nonzero
find_repeated-requires-clause-nonzero g c = zero-whole g.K.Ring.ring c.args.l c.args.rows.now (sym c.find_constant.ensures.fault ∙ c.in_default.is)
