use Rattle.std.proofs.Common.{◌≡◌, take}
use Rattle.hp_mono.specs.Monomials.{degree}
use Rattle.hp_render.specs.VectorText.{greatest}
use Rattle.hp_render.proofs.vector_text.entry_degree.Given as goal

abbrev pub invariant-loop-t : goal.invariant-loop-t
invariant-loop-t g l = l.most ≡ greatest (λ t. degree t.0) (take l.t-index l.terms)
