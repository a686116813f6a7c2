use Rattle.std.proofs.Common.{◌≡◌, ◌++◌, map, take}
use Rattle.std.specs.Prelude.{decimal}
use Rattle.hp_render.specs.AnswerWords.{behind_spaces}
use Rattle.hp_render.proofs.resolution_text.push_counts.Given as goal

abbrev pub invariant-loop-n : goal.invariant-loop-n
invariant-loop-n l = l.text.items ≡ l.fn.text.items ++ behind_spaces (map decimal (take l.n-index l.counts))
