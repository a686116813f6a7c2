use Rattle.std.proofs.Common.{◌≡◌, ◌++◌, map, take}
use Rattle.std.specs.Fmt.{signed_decimal}
use Rattle.hp_render.specs.Text.{behind_spaces}
use Rattle.hp_render.proofs.polynomial_text.push_integers.Given as goal

abbrev pub invariant-loop-n : goal.invariant-loop-n
invariant-loop-n l = l.text.items ≡ l.fn.text.items ++ behind_spaces (map signed_decimal (take l.n-index l.integers))
