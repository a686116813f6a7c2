use Rattle.std.proofs.Common.{◌≡◌, [], ◌++◌, map}
use Rattle.hp_lists.specs.Lists.{range_with_len}
use Rattle.hp_der.specs.DerivationModules.{column_generator}
use Rattle.hp_der.proofs.generators.column_generators.Given as goal

abbrev pub invariant-loop-j : goal.invariant-loop-j
invariant-loop-j g l = l.gens.items ≡ [] ++ map (column_generator g.K.Ring.ring l.arr l.m) (range_with_len 1 l.j)
