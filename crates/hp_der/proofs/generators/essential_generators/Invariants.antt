use Rattle.std.proofs.Common.{◌≡◌, ◌++◌, map}
use Rattle.hp_lists.specs.Lists.{one_to, range_with_len}
use Rattle.hp_der.specs.DerivationModules.{column_generator, power_generator}
use Rattle.hp_der.specs.EssentialGenerators.{essential_arrangement}
use Rattle.hp_der.proofs.generators.essential_generators.Given as goal

abbrev pub invariant-loop-i : goal.invariant-loop-i
invariant-loop-i g l =
    let less = essential_arrangement g.K.Ring.ring l.arr l.m l.pivots in
    l.gens.items ≡ map (column_generator g.K.Ring.ring l.arr l.m) (one_to l.arr.dim) ++ map (power_generator g.K.Ring.ring less l.m) (range_with_len 1 l.i)
