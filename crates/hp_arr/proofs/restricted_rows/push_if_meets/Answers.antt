use Rattle.std.proofs.Common.{take, sym, ap, ◌∙◌}
use Rattle.hp_algebra.specs.Rows.{is_zero_row}
use Rattle.hp_arr.proofs.AffineFaultless.{whole-nonzero}
use Rattle.hp_arr.proofs.restricted_rows.push_if_meets.Goals as goal

pub normalised-requires-clause-nonzero : goal.normalised-requires-clause-nonzero
normalised-requires-clause-nonzero g c =
    whole-nonzero g.K.Ring.ring c.args.count c.args.row.items
    (ap (λ row. is_zero_row g.K.Ring.ring (take c.args.count row)) (sym c.deref.ensures.value) ∙ sym c.is_zero.ensures.zero ∙ c.if-not-is_zero.true)
