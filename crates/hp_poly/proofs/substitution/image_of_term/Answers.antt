use Rattle.std.proofs.Common.{◌∙◌}
use Rattle.hp_poly.specs.Polynomials.{poly_plus, poly_times, term_poly}
use Rattle.hp_poly.proofs.Substitutions.{substituted-one}
use Rattle.hp_poly.proofs.substitution.image_of_term.Goals as goal

pub returns-clause-value : goal.returns-clause-value
returns-clause-value g c =
    let ring = g.F.Ring.ring in
    let none = c.as_slice.ensures.value ∙ c.new-none.ensures.items in
    let image = c.terms.ensures.value ∙ c.in_ok-image.ensures.value in
    c.in_ok-terms.ensures.value ∙ (λ i. poly_plus ring (none i) (poly_times ring (term_poly ring c.args.c (c.one.ensures.value i)) (image i)))
    ∙ substituted-one g.met.F.Field.field_laws c.args.xs.now c.look_at.ensures c.args.c c.args.m.now c.is_nil-zero.ensures.of c.requires.nonzero
