use Rattle.std.proofs.Common.{[]}
use Rattle.hp_der.specs.DerivationModules.{column_generator}
use Rattle.hp_der.proofs.RangeSteps.{next-value}
use Rattle.hp_der.proofs.generators.column_generators.Goals as goal

pub loop-j-preserved : goal.loop-j-preserved
loop-j-preserved g c =
    next-value (column_generator g.K.Ring.ring c.args.arr.now c.args.m.now) [] c.loop-j.gens.items c.push.new.self.items _ c.loop-j.j
    c.loop-j.invariant c.in_ok-column_generator.ensures c.in_ok-push.ensures.items
