use Rattle.std.proofs.Common.{◌≡◌, ◌++◌, take}
use Rattle.std.specs.List.{flat_map}
use Rattle.hp_render.specs.VectorText.{row_line}
use Rattle.hp_render.proofs.vector_text.push_rows.Given as goal

abbrev pub invariant-loop-row : goal.invariant-loop-row
invariant-loop-row g l = l.text.items ≡ l.fn.text.items ++ flat_map (row_line g.K.FiniteField.numbers) (take l.row-index l.rows)
