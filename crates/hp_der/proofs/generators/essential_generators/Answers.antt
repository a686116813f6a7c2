use Rattle.std.proofs.Common.{map}
use Rattle.hp_lists.specs.Lists.{one_to}
use Rattle.hp_der.specs.DerivationModules.{column_generator, power_generator}
use Rattle.hp_der.specs.EssentialGenerators.{essential_arrangement}
use Rattle.hp_der.proofs.RangeSteps.{next-value}
use Rattle.hp_der.proofs.generators.essential_generators.Goals as goal

pub loop-i-preserved : goal.loop-i-preserved
loop-i-preserved g c =
    let ring = g.K.Ring.ring in
    let arr = c.args.arr.now in
    let m = c.args.m.now in
    let less = essential_arrangement ring arr m c.args.pivots.now in
    next-value (power_generator ring less m) (map (column_generator ring arr m) (one_to arr.dim)) c.loop-i.gens.items c.push.new.self.items _ c.loop-i.i
    c.loop-i.invariant c.in_ok-power_generator.ensures c.in_ok-push.ensures.items
