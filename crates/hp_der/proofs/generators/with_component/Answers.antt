use Rattle.std.proofs.Common.{◌==◌, if◌then◌else◌, []}
use Rattle.hp_der.proofs.RangeSteps.{next-value}
use Rattle.hp_der.proofs.generators.with_component.Goals as goal

pub loop-k-preserved : goal.loop-k-preserved
loop-k-preserved g c =
    next-value (λ k. if k == c.args.c then c.args.p.now else []) c.args.entries.items c.loop-k.entries.items c.push.new.self.items _ c.loop-k.k
    c.loop-k.invariant c.in_ok-entry_at.ensures c.in_ok-push.ensures.items
