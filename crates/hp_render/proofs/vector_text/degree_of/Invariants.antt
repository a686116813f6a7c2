use Rattle.std.proofs.Common.{◌≡◌, take}
use Rattle.hp_render.specs.VectorText.{vector_degree}
use Rattle.hp_render.proofs.vector_text.degree_of.Given as goal

abbrev pub invariant-loop-entry : goal.invariant-loop-entry
invariant-loop-entry g l = l.most ≡ vector_degree (take l.entry-index l.entries)
