use Rattle.std.proofs.Common.{◌≡◌, ◌++◌, map, take}
use Rattle.std.specs.Prelude.{decimal}
use Rattle.hp_render.specs.Text.{behind_spaces}
use Rattle.hp_render.proofs.exterior_text.push_dimensions.Given as goal

abbrev pub invariant-loop-n : goal.invariant-loop-n
invariant-loop-n l = l.text.items ≡ l.fn.text.items ++ behind_spaces (map decimal (take l.n-index l.dimensions))
