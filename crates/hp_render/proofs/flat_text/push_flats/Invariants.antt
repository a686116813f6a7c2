use Rattle.std.proofs.Common.{◌≡◌, ◌++◌, take}
use Rattle.std.specs.List.{flat_map}
use Rattle.hp_render.specs.Text.{flat_line}
use Rattle.hp_render.proofs.flat_text.push_flats.Given as goal

abbrev pub invariant-loop-flat : goal.invariant-loop-flat
invariant-loop-flat l = l.text.items ≡ l.fn.text.items ++ flat_map flat_line (take l.flat-index l.flats)
