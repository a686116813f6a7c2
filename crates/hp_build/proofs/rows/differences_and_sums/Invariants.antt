use Rattle.std.proofs.Common.{◌≡◌, ◌∷◌, [], flat_map, take}
use Rattle.hp_build.specs.Families.{difference, sum_form}
use Rattle.hp_build.proofs.rows.differences_and_sums.Given as goal

abbrev pub invariant-loop-i : goal.invariant-loop-i
invariant-loop-i g l = l.forms.items ≡ flat_map (λ e. difference g.K.Ring.ring l.l e.0 e.1 ∷ sum_form g.K.Ring.ring l.l e.0 e.1 ∷ []) (take l.i-index l.pairs)
