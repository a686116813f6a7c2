use Rattle.std.proofs.Common.{◌∙◌, nat_lt, map, filter, arith}
use Rattle.hp_lists.specs.Lists.{one_to}
use Rattle.hp_lists.proofs.Ranges.{flat_map-next}
use Rattle.hp_sample.proofs.pairs.vertex_pairs.Goals as goal

pub loop-a-preserved : goal.loop-a-preserved
loop-a-preserved c =
    c.in_ok-append.ensures.items
    ∙ flat_map-next (λ a. map (λ b. (a, b)) (filter (nat_lt a) (one_to c.args.v))) c.loop-a.found.items c.in_ok-pairs_from.field-0.items c.loop-a.a (omega arith) c.loop-a.invariant c.in_ok-pairs_from.ensures
