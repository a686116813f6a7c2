use Rattle.std.proofs.Common.{[], ◌∷◌, ◌++◌, get_or, ◌∙◌, arith}
use Rattle.hp_session.proofs.Zips.{zip-more}
use Rattle.hp_session.proofs.graded.graded.Goals as goal

pub loop-k-preserved : goal.loop-k-preserved
loop-k-preserved g c =
    let ds = c.args.degrees.now in
    let vs = c.args.vectors.now in
    let k = c.loop-k.k in
    let v = c.index-vectors-k.result in
    let inside = c.loop-k-test.true in
    let same = c.in_ok-entries.ensures ∙ c.entries.ensures.value in
    c.in_ok-push.ensures.items ∙ (λ i. c.loop-k.invariant i ++ (get_or ds k 0, same i) ∷ [])
    ∙ zip-more ds vs k (get_or ds k 0) 0 v v (omega (arith, inside, c.requires)) inside (λ i. get_or ds k 0) c.index-vectors-k.is
