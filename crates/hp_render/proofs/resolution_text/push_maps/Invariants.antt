use Rattle.std.proofs.Common.{◌≡◌, ◌++◌, take}
use Rattle.hp_render.specs.ResolutionText.{maps_lines}
use Rattle.hp_render.proofs.resolution_text.push_maps.Given as goal

-- the lines of the maps before map k are appended
abbrev pub invariant-loop-k : goal.invariant-loop-k
invariant-loop-k g l = l.text.items ≡ l.initial.text.items ++ maps_lines g.K.FiniteField.numbers 0 (take l.k l.maps)
