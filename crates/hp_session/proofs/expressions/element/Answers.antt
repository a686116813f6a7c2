use Rattle.std.proofs.Common.{◌/◌, ◌%◌, w64, ap, ◌∙◌, arith}
use Rattle.std.proofs.lemmas.Int.{to_z_pos}
use Rattle.hp_algebra.specs.Ring.{integer}
use Rattle.hp_session.proofs.ExpressionValues.{halves}
use Rattle.hp_session.proofs.expressions.element.Goals as goal

pub returns-clause-value : goal.returns-clause-value
returns-clause-value g c =
    let ring = g.K.Ring.ring in
    let n = c.args.n in
    let half = c.from_i64-half.ensures.multiple ∙ ap (integer ring) (to_z_pos w64 (n / 2) (omega (arith, c.ranges.n.fits))) in
    let left = c.from_i64.ensures.multiple ∙ ap (integer ring) (to_z_pos w64 (n % 2) (omega arith)) in
    c.plus-2.ensures.value
    ∙ (λ i. ring.add ((c.plus.ensures.value ∙ (λ j. ring.add (half j) (half j))) i) (left i))
    ∙ halves g.met.K.Ring.ring_laws n
