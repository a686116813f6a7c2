use Rattle.hp_poly.proofs.TermMultiples.{each_product}
use Rattle.hp_module.proofs.ComponentOrders.{falling-plus, multiple-monomials}
use Rattle.hp_module.proofs.merging.merge_multiple.Goals as goal

pub merge_multiple-requires-clause-fits : goal.merge_multiple-requires-clause-fits
merge_multiple-requires-clause-fits g c =
    each_product g.met.F.Field.field_laws c.args.m c.args.right.now c.degree-degree.ensures.of.exponents
    c.requires.right.monomials c.requires.degrees

pub returns-clause-answer : goal.returns-clause-answer
returns-clause-answer g c =
    let b = c.args.order.now in
    let width = g.O.TermOrder.components b in
    let cmp = g.O.TermOrder.order b in
    let order = g.met.O.TermOrder.lawful b c.width-width.ensures.of in
    let k = c.args.comp in
    let field = g.met.F.Field.field_laws in
    let right = multiple-monomials width cmp order k c.requires.counted c.requires.within field c.args.c c.args.m
    c.args.right.now c.degree-degree.ensures.of.exponents c.requires.right in
    falling-plus width cmp order k c.requires.counted c.requires.within field _ c.requires.left right
    c.in_ok-merge_multiple.ensures.answer c.in_ok-merge_multiple.ensures.value
