use Rattle.std.proofs.Common.{rules, ◌++◌, ◌∙◌, ap, slice_index_or, length, ◌<◌}
use Rattle.hp_render.specs.Text.{generator_text}
use Rattle.hp_render.proofs.NextGenerator.{next_generator}
use Rattle.hp_render.proofs.exterior_text.push_generators.Goals as goal

pub loop-k-preserved : goal.loop-k-preserved
loop-k-preserved c =
    let high : c.loop-k.k < length c.args.set = search rules in
    c.in_ok-push_generator.ensures
    ∙ ap (λ t. t ++ generator_text (slice_index_or c.args.set c.loop-k.k 0)) c.loop-k.invariant
    ∙ next_generator generator_text c.args.set c.loop-k.k c.args.text.now.items high
