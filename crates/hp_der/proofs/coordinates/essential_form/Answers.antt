use Rattle.std.proofs.Common.{[], ◌-◌, cond}
use Rattle.hp_algebra.specs.Rows.{entry}
use Rattle.hp_graded.specs.EssentialRows.{is_pivot}
use Rattle.hp_der.proofs.RangeSteps.{next-value}
use Rattle.hp_der.proofs.coordinates.essential_form.Goals as goal

pub loop-k-preserved : goal.loop-k-preserved
loop-k-preserved g c =
    let ring = g.F.Ring.ring in
    next-value (λ j. cond (is_pivot c.args.pivots.now j) (entry ring c.args.form.now (j - 1)) ring.zero) [] c.loop-k.entries.items c.push.new.self.items _ c.loop-k.k
    c.loop-k.invariant c.essential_entry.ensures c.in_ok-push.ensures.items
