use Rattle.std.proofs.Common.{◌≡◌, ◌++◌, take}
use Rattle.std.specs.List.{flat_map}
use Rattle.hp_render.specs.Text.{later_term_text}
use Rattle.hp_render.proofs.exterior_text.push_later_terms.Given as goal

abbrev pub invariant-loop-t : goal.invariant-loop-t
invariant-loop-t g l = l.text.items ≡ l.fn.text.items ++ flat_map (later_term_text g.K.FiniteField.numbers) (take l.t-index l.terms)
