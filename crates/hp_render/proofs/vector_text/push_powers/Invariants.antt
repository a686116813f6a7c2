use Rattle.std.proofs.Common.{◌≡◌, ◌++◌, ◌-◌, take}
use Rattle.hp_render.specs.VectorText.{powers_text}
use Rattle.hp_render.proofs.vector_text.push_powers.Given as goal

-- the powers of the variables before x_i are appended
abbrev pub invariant-loop-i : goal.invariant-loop-i
invariant-loop-i l = l.text.items ≡ l.initial.text.items ++ powers_text 1 (take (l.i - 1) l.mono)
