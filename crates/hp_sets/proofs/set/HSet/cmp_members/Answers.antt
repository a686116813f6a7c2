use Rattle.std.proofs.Common.{sym}
use Rattle.hp_sets.proofs.SetOrder.{apart-of, none_apart, mine_first, others_first}
use Rattle.hp_sets.proofs.set.HSet.cmp_members.Goals as goal

pub returns-in-None : goal.returns-in-None
returns-in-None c =
    let h = apart-of c.args.self c.args.other c.minus-mine.result c.union.result c.minus.result c.requires.set c.requires.other_set c.requires.size c.minus-mine.ensures.value c.union.ensures.value c.minus.ensures.value in
    sym (none_apart c.args.self c.args.other c.minus-mine.result c.union.result h (sym c.in-None.ensures.value))

pub returns-in-Some : goal.returns-in-Some
returns-in-Some c =
    let h = apart-of c.args.self c.args.other c.minus-mine.result c.union.result c.minus.result c.requires.set c.requires.other_set c.requires.size c.minus-mine.ensures.value c.union.ensures.value c.minus.ensures.value in
    sym (mine_first c.args.self c.args.other c.minus-mine.result c.union.result h c.in-Some.i (sym c.in-Some.ensures.value) (sym c.if-contains.ensures.value))

pub returns-in-Some-2 : goal.returns-in-Some-2
returns-in-Some-2 c =
    let h = apart-of c.args.self c.args.other c.minus-mine.result c.union.result c.minus.result c.requires.set c.requires.other_set c.requires.size c.minus-mine.ensures.value c.union.ensures.value c.minus.ensures.value in
    sym (others_first c.args.self c.args.other c.minus-mine.result c.union.result h c.in-Some.i (sym c.in-Some.ensures.value) (sym c.if-contains.ensures.value))
