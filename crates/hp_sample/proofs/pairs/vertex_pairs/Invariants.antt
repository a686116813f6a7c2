use Rattle.std.proofs.Common.{◌≡◌, ◌-◌, flat_map, nat_lt, map, filter}
use Rattle.hp_lists.specs.Lists.{one_to, range_with_len}
use Rattle.hp_sample.proofs.pairs.vertex_pairs.Given as goal

-- the pairs whose first vertex is below a
abbrev pub invariant-loop-a : goal.invariant-loop-a
invariant-loop-a l = l.found.items ≡ flat_map (λ a. map (λ b. (a, b)) (filter (nat_lt a) (one_to l.v))) (range_with_len 1 (l.a - 1))
