use Rattle.std.proofs.Common.{◌≡◌, ◌++◌, take}
use Rattle.std.specs.List.{flat_map}
use Rattle.hp_render.specs.VectorText.{later_product_text}
use Rattle.hp_render.proofs.vector_text.push_later_products.Given as goal

abbrev pub invariant-loop-t : goal.invariant-loop-t
invariant-loop-t g l = l.text.items ≡ l.fn.text.items ++ flat_map (later_product_text g.K.FiniteField.numbers) (take l.t-index l.terms)
