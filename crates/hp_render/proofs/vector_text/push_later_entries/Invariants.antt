use Rattle.std.proofs.Common.{◌≡◌, ◌++◌, take}
use Rattle.std.specs.List.{flat_map}
use Rattle.hp_render.specs.VectorText.{later_entry_text}
use Rattle.hp_render.proofs.vector_text.push_later_entries.Given as goal

abbrev pub invariant-loop-entry : goal.invariant-loop-entry
invariant-loop-entry g l = l.text.items ≡ l.fn.text.items ++ flat_map (later_entry_text g.K.FiniteField.numbers) (take l.entry-index l.entries)
