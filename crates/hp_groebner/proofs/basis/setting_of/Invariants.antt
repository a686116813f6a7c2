use Rattle.std.proofs.Common.{◌≡◌, replicate}
use Rattle.hp_groebner.proofs.basis.setting_of.Given as goal

abbrev pub invariant-loop : goal.invariant-loop
invariant-loop l = l.shifts.items ≡ replicate l.counter 0
