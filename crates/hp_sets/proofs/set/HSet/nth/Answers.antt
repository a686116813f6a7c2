use Rattle.std.proofs.Common.{◌≡◌, drop, length, min, slice_get, ap, ◌∙◌, arith}
use Rattle.hp_sets.proofs.Places.{drop-more, get-drop, get-min, nth-some}
use Rattle.hp_sets.proofs.set.HSet.nth.Goals as goal

pub loop-preserved : goal.loop-preserved
loop-preserved c = c.without_least-rest.ensures ∙ ap (drop 1) c.loop.invariant ∙ drop-more c.args.self c.loop.counter

pub returns-clause-value : goal.returns-clause-value
returns-clause-value c =
    let end : c.loop.counter ≡ min c.args.k (length c.args.self) = omega (arith, c.min-end.ensures, c.len.ensures.value) in
    c.least.ensures.value ∙ ap (λ s. slice_get s 0) c.loop.invariant ∙ get-drop c.args.self c.loop.counter
    ∙ ap (slice_get c.args.self) end ∙ get-min c.args.self c.args.k

pub returns-clause-place : goal.returns-clause-place
returns-clause-place c = nth-some c.args.self c.args.k c.least.result c.len.ensures.set (returns-clause-value c)
