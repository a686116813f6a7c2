use Rattle.std.proofs.Common.{sym, ◌∙◌, arith}
use Rattle.hp_syzygy.proofs.LastNumbers.{last-differs}
use Rattle.hp_syzygy.proofs.order.compare_by_last.Goals as goal

pub returns-then-a-i : goal.returns-then-a-i
returns-then-a-i c =
    let a = c.args.a.now in
    let b = c.args.b.now in
    let k = c.loop-i.i in
    let e = last-differs k a b c.requires (omega arith) (omega arith) c.loop-i.invariant in
    c.cmp.ensures ∙ sym (e c.if-a-i.true)
