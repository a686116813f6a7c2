use Rattle.std.proofs.Common.{sym, ◌∙◌, arith}
use Rattle.hp_algebra.proofs.RowDifferences.{same_row-end, same_row-widths}
use Rattle.hp_arr.proofs.restriction.is_same.Goals as goal

pub returns-then-a-b : goal.returns-then-a-b
returns-then-a-b g c = sym (same_row-widths g.K.Ring.ring c.args.a.now c.args.b.now c.if-a-b.true)

pub returns : goal.returns
returns g c =
    let a = c.args.a.now in
    let b = c.args.b.now in
    sym (c.loop-k.invariant ∙ same_row-end g.K.Ring.ring a b c.loop-k.k (omega arith) (omega arith))
