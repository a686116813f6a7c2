use Rattle.std.proofs.Common.{[], ◌∷◌, ◌++◌, get_or, ◌∙◌, arith}
use Rattle.hp_session.proofs.Zips.{zip-more}
use Rattle.hp_session.proofs.graded.graded_matrix.Goals as goal

pub loop-k-preserved : goal.loop-k-preserved
loop-k-preserved g c =
    let ds = c.args.degrees.now in
    let rows = c.args.rows.now.rows in
    let k = c.loop-k.k in
    let test = c.loop-k-test.true in
    let many = c.rows-k-end.ensures.value in
    let same = c.in_ok-entries.ensures ∙ c.row.ensures.value in
    c.in_ok-push.ensures.items ∙ (λ i. c.loop-k.invariant i ++ (get_or ds k 0, same i) ∷ [])
    ∙ zip-more ds rows k (get_or ds k 0) 0 (get_or rows k []) [] (omega (arith, test, many, c.requires)) (omega (arith, test, many))
    (λ i. get_or ds k 0) (λ i. get_or rows k [])
