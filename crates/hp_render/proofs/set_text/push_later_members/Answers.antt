use Rattle.std.proofs.Common.{rules, ◌++◌, ◌≤◌, ◌∙◌, [], ◌∷◌, ap, decimal, slice_index_or, arith, length, ◌<◌}
use Rattle.hp_render.specs.Text.{behind_spaces}
use Rattle.hp_render.proofs.LaterMembers.{next_member}
use Rattle.hp_render.proofs.set_text.push_later_members.Goals as goal

pub loop-k-preserved : goal.loop-k-preserved
loop-k-preserved c =
    let low : 1 ≤ c.loop-k.k = omega (arith, c.loop-k.auto.k) in
    let high : c.loop-k.k < length c.args.set = search rules in
    c.in_ok-push_member.ensures
    ∙ ap (λ t. t ++ behind_spaces (decimal (slice_index_or c.args.set c.loop-k.k 0) ∷ [])) c.loop-k.invariant
    ∙ next_member decimal c.args.set c.loop-k.k c.args.text.now.items low high
