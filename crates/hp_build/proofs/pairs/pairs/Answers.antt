use Rattle.std.proofs.Common.{◌∙◌, arith}
use Rattle.hp_build.proofs.ListedPairs.{pairs_from}
use Rattle.hp_lists.proofs.Ranges.{flat_map-next}
use Rattle.hp_build.proofs.pairs.pairs.Goals as goal

pub loop-i-preserved : goal.loop-i-preserved
loop-i-preserved c =
    c.in_ok-append.ensures.items ∙ flat_map-next (pairs_from c.args.l) c.loop-i.found.items c.in_ok-pairs_from.field-0.items c.loop-i.i (omega arith) c.loop-i.invariant c.in_ok-pairs_from.ensures
