use Rattle.std.proofs.Common.{◌≡◌, map, take}
use Rattle.hp_build.specs.Families.{difference}
use Rattle.hp_build.proofs.rows.differences.Given as goal

abbrev pub invariant-loop-i : goal.invariant-loop-i
invariant-loop-i g l = l.forms.items ≡ map (λ e. difference g.K.Ring.ring l.l e.0 e.1) (take l.i-index l.pairs)
