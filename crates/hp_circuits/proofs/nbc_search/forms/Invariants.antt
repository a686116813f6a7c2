use Rattle.std.proofs.Common.{◌≡◌, take}
use Rattle.hp_circuits.proofs.nbc_search.forms.Given as goal

abbrev pub invariant-loop-j : goal.invariant-loop-j
invariant-loop-j g l = l.rows.items ≡ take l.j l.arr.forms
