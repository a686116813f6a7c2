use Rattle.std.proofs.Common.{◌<◌, ◌++◌, ◌∙◌, ap, length, arith}
use Rattle.hp_render.specs.ResolutionText.{map_lines}
use Rattle.hp_render.proofs.NextNumbered.{numbered-from_0}
use Rattle.hp_render.proofs.resolution_text.push_maps.Goals as goal

pub loop-k-preserved : goal.loop-k-preserved
loop-k-preserved g c =
    let lines = map_lines g.K.FiniteField.numbers in
    let inside : c.loop-k.k < length c.args.maps.now = omega (arith, c.loop-k-test.true, c.loop-k.auto.k-end) in
    c.in_ok-push_map.ensures
    ∙ ap (λ t. t ++ lines c.loop-k.k c.index-maps-k.result) c.loop-k.invariant
    ∙ numbered-from_0 lines c.loop-k.k c.args.maps.now c.index-maps-k.result c.args.text.now.items inside c.index-maps-k.is
