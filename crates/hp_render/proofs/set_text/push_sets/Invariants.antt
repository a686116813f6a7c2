use Rattle.std.proofs.Common.{◌≡◌, ◌++◌, take}
use Rattle.std.specs.List.{flat_map}
use Rattle.hp_render.specs.Text.{set_line}
use Rattle.hp_render.proofs.set_text.push_sets.Given as goal

abbrev pub invariant-loop-set : goal.invariant-loop-set
invariant-loop-set l = l.text.items ≡ l.fn.text.items ++ flat_map set_line (take l.set-index l.sets)
