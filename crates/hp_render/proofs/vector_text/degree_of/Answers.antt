use Rattle.std.proofs.Common.{ap, ◌∙◌, max}
use Rattle.hp_mono.specs.Monomials.{degree}
use Rattle.hp_render.specs.VectorText.{greatest}
use Rattle.hp_render.proofs.GreatestDegree.{next_greatest}
use Rattle.hp_render.proofs.vector_text.degree_of.Goals as goal

pub loop-entry-preserved : goal.loop-entry-preserved
loop-entry-preserved g c =
    next_greatest (greatest (λ t. degree t.0)) c.args.entries.now c.loop-entry.entry-index c.loop-entry.most c.max-most.result c.entry-item.result c.loop-entry-test.true
    c.loop-entry.invariant c.entry-item.is (c.max-most.ensures ∙ ap (max c.loop-entry.most) (c.entry_degree.ensures ∙ ap (greatest (λ t. degree t.0)) c.as_slice.ensures))
