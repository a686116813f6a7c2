use Rattle.std.proofs.Common.{◌≡◌, ◌++◌, take}
use Rattle.std.specs.List.{flat_map}
use Rattle.hp_render.specs.AnswerWords.{elements_line}
use Rattle.hp_render.proofs.numbers.push_lines.Given as goal

abbrev pub invariant-loop-row : goal.invariant-loop-row
invariant-loop-row g l = l.text.items ≡ l.fn.text.items ++ flat_map (elements_line g.K.FiniteField.numbers) (take l.row-index l.rows)
