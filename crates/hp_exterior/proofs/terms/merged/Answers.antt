use Rattle.hp_exterior.proofs.TermSteps.{plus_ext}
use Rattle.hp_exterior.proofs.terms.merged.Goals as goal

pub returns-clause-answer : goal.returns-clause-answer
returns-clause-answer g c =
    plus_ext g.met.F.Field.field_laws c.requires.left c.requires.right c.in_ok-sum.ensures.value
