use Rattle.hp_poly.proofs.TermMultiples.{collected_poly}
use Rattle.hp_poly.proofs.terms.collected.Goals as goal

pub returns-clause-answer : goal.returns-clause-answer
returns-clause-answer g c =
    collected_poly g.met.F.Field.field_laws c.args.terms.now c.in_ok-sum.ensures.values c.in_ok-sum.ensures.keys
    c.in_ok-sum.ensures.value
