use Rattle.std.proofs.Common.{◌∙◌, ◌++◌, ◌∷◌, [], ap}
use Rattle.std.proofs.lemmas.List.{replicate-append-replicate}
use Rattle.hp_der.proofs.prepared.no_shifts.Goals as goal

pub loop-preserved : goal.loop-preserved
loop-preserved c = c.in_ok-push.ensures.items ∙ ap (λ xs. xs ++ 0 ∷ []) c.loop.invariant ∙ replicate-append-replicate c.loop.counter 1 0
