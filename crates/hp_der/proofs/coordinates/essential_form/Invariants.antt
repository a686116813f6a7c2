use Rattle.std.proofs.Common.{◌≡◌, [], ◌-◌, ◌++◌, cond, map}
use Rattle.hp_algebra.specs.Rows.{entry}
use Rattle.hp_lists.specs.Lists.{range_with_len}
use Rattle.hp_graded.specs.EssentialRows.{is_pivot}
use Rattle.hp_der.proofs.coordinates.essential_form.Given as goal

abbrev pub invariant-loop-k : goal.invariant-loop-k
invariant-loop-k g l =
    l.entries.items
    ≡ [] ++ map (λ j. cond (is_pivot l.pivots j) (entry g.F.Ring.ring l.form (j - 1)) g.F.Ring.ring.zero) (range_with_len 1 l.k)
