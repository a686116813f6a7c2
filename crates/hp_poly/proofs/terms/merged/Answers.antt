use Rattle.hp_poly.proofs.TermMultiples.{plus_poly}
use Rattle.hp_poly.proofs.terms.merged.Goals as goal

pub returns-clause-answer : goal.returns-clause-answer
returns-clause-answer g c =
    plus_poly g.met.F.Field.field_laws c.requires.left c.requires.right c.in_ok-sum.ensures.value
