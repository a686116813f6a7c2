use Rattle.std.proofs.Common.{◌≡◌, ◌++◌, ◌==◌, if◌then◌else◌, [], map}
use Rattle.hp_lists.specs.Lists.{range_with_len}
use Rattle.hp_der.proofs.generators.with_component.Given as goal

abbrev pub invariant-loop-k : goal.invariant-loop-k
invariant-loop-k g l = l.entries.items ≡ l.fn.entries.items ++ map (λ k. if k == l.c then l.p else []) (range_with_len 1 l.k)
