use Rattle.std.proofs.Common.{ap, sym, ◌∙◌}
use Rattle.hp_poly.specs.Polynomials.{poly_plus}
use Rattle.hp_poly.proofs.TermMultiples.{each_product, multiple_poly, plus_poly, times_multiple}
use Rattle.hp_poly.proofs.terms.merged_multiple.Goals as goal

pub merged_multiple-requires-clause-fits : goal.merged_multiple-requires-clause-fits
merged_multiple-requires-clause-fits g c =
    each_product g.met.F.Field.field_laws c.args.m c.args.right.now c.degree-degree.ensures.of.exponents
    c.requires.right.monomials c.requires.degrees

pub returns-clause-value : goal.returns-clause-value
returns-clause-value g c =
    c.in_ok-sum.ensures.value
    ∙ ap (poly_plus g.F.Ring.ring c.args.left.now) (sym (times_multiple g.met.F.Field.field_laws c.args.c c.args.m c.args.right.now
    c.is_nil-zero.ensures.of c.requires.nonzero c.degree-degree.ensures.of.exponents c.requires.right))

pub returns-clause-answer : goal.returns-clause-answer
returns-clause-answer g c =
    let field = g.met.F.Field.field_laws in
    plus_poly field c.requires.left
    (multiple_poly field c.args.c c.args.m c.args.right.now c.is_nil-zero.ensures.of c.requires.nonzero
    c.degree-degree.ensures.of.exponents c.requires.right)
    c.in_ok-sum.ensures.value
