use Rattle.std.proofs.Common.{◌≡◌, ◌++◌, take}
use Rattle.std.specs.List.{flat_map}
use Rattle.hp_render.specs.Text.{generator_text}
use Rattle.hp_render.proofs.exterior_text.push_generators.Given as goal

-- the generators of the first k members are appended
abbrev pub invariant-loop-k : goal.invariant-loop-k
invariant-loop-k l = l.text.items ≡ l.initial.text.items ++ flat_map generator_text (take l.k l.set)
