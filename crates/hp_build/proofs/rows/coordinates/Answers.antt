use Rattle.std.proofs.Common.{◌∙◌, arith}
use Rattle.hp_algebra.specs.Rows.{unit_row}
use Rattle.hp_lists.proofs.Ranges.{map-next}
use Rattle.hp_build.proofs.rows.coordinates.Goals as goal

pub loop-i-preserved : goal.loop-i-preserved
loop-i-preserved g c =
    c.in_ok-push.ensures.items
    ∙ map-next (unit_row g.K.Ring.ring c.args.l) c.loop-i.forms.items c.of.result c.loop-i.i (omega arith) c.loop-i.invariant (c.of.ensures ∙ c.in_ok-unit_row.ensures)
