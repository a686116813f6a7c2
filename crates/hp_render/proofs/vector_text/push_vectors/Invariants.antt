use Rattle.std.proofs.Common.{◌≡◌, ◌++◌, take}
use Rattle.std.specs.List.{flat_map}
use Rattle.hp_render.specs.VectorText.{vector_line}
use Rattle.hp_render.proofs.vector_text.push_vectors.Given as goal

abbrev pub invariant-loop-vector : goal.invariant-loop-vector
invariant-loop-vector g l = l.text.items ≡ l.fn.text.items ++ flat_map (vector_line g.K.FiniteField.numbers) (take l.vector-index l.vectors)
