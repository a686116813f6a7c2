use Rattle.std.proofs.Common.{◌∙◌}
use Rattle.hp_exterior.proofs.TermSteps.{later_coefficient, no_coefficient, rest_is_ext}
use Rattle.hp_exterior.proofs.terms.coefficient.Goals as goal

pub loop-t-preserved : goal.loop-t-preserved
loop-t-preserved g c =
    let field = g.met.F.Field.field_laws in
    let first = c.in-Some.ensures.cases.0 in record {
      rest = rest_is_ext field c.loop-t.invariant.rest first;
      same = later_coefficient field c.args.s first c.in-Greater.ensures.value ∙ c.loop-t.invariant.same;
    }

pub returns-in-Less : goal.returns-in-Less
returns-in-Less g c =
    c.nil.ensures.value
    ∙ no_coefficient g.met.F.Field.field_laws c.args.s c.loop-t.invariant.rest c.in-Some.ensures.cases.0
    c.in-Less.ensures.value
    ∙ c.loop-t.invariant.same
