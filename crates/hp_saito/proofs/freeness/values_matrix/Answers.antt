use Rattle.std.proofs.Common.{take}
use Rattle.std.proofs.lemmas.List.Elements.{All-take}
use Rattle.hp_module.specs.Vectors.{IsVector}
use Rattle.hp_saito.proofs.ValueRows.{value-widths}
use Rattle.hp_saito.proofs.freeness.values_matrix.Goals as goal

pub new-requires : goal.new-requires
new-requires g c =
    let ring = g.F.Ring.ring in
    let rows = c.args.rows.now in
    rw (c.cols.ensures.value) (value-widths ring c.args.point.now rows.cols c.loop-k.values.items
    (take c.loop-k.k rows.rows) c.loop-k.invariant
    (λ j d l. (All-take (IsVector ring rows.cols) c.loop-k.k rows.rows c.cols.ensures.matrix j d l).0))
