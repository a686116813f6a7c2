use Rattle.std.proofs.Common.{◌≡◌, ◌-◌, ◌≤◌, take}
use Rattle.hp_session.proofs.answering.hyperplanes.Given as goal

abbrev pub invariant-loop-i : goal.invariant-loop-i
invariant-loop-i g l = record { low : 1 ≤ l.i; copied : l.forms.items ≡ take (l.i - 1) l.arr.forms }
