use Rattle.std.proofs.Common.{◌≡◌, ◌++◌, map, take}
use Rattle.hp_render.specs.AnswerWords.{behind_spaces, element_text}
use Rattle.hp_render.proofs.numbers.push_behind_spaces.Given as goal

abbrev pub invariant-loop-x : goal.invariant-loop-x
invariant-loop-x g l = l.text.items ≡ l.fn.text.items ++ behind_spaces (map (element_text g.K.FiniteField.numbers) (take l.x-index l.elements))
