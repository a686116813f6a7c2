use Rattle.hp_arr.proofs.AffineFaultless.{values-parts}
use Rattle.hp_arr.proofs.row_faults.is_constant.Goals as goal

pub returns-clause-values : goal.returns-clause-values
returns-clause-values g c = values-parts g.K.Ring.ring c.args.l c.args.row.now c.is_zero.ensures.values c.is_zero-rest.ensures.values
