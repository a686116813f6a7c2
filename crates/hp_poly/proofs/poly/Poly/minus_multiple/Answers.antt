use Rattle.std.proofs.Common.{◌∙◌}
use Rattle.hp_poly.proofs.TermMultiples.{minus_value}
use Rattle.hp_poly.proofs.poly.Poly.minus_multiple.Goals as goal

pub returns : goal.returns
returns g c =
    minus_value g.met.F.Field.field_laws c.args.m c.in_ok-merged_multiple.ensures.value
    (c.as_slice.ensures.value ∙ c.self.view_is) c.as_slice-2.ensures.value c.other.view_is c.negate-turned.ensures.value
    c.negate-turned.ensures.of c.requires.nonzero c.degree-degree.ensures.of.exponents c.other.invariant
