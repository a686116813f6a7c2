use Rattle.std.proofs.Common.{ap, ◌∙◌, max}
use Rattle.hp_mono.specs.Monomials.{degree}
use Rattle.hp_render.proofs.GreatestDegree.{next_greatest}
use Rattle.hp_render.proofs.vector_text.entry_degree.Goals as goal

pub loop-t-preserved : goal.loop-t-preserved
loop-t-preserved g c =
    next_greatest (λ t. degree t.0) c.args.terms.now c.loop-t.t-index c.loop-t.most c.max-most.result c.t-item.result c.loop-t-test.true
    c.loop-t.invariant c.t-item.is (c.max-most.ensures ∙ ap (max c.loop-t.most) c.degree.ensures.value)
