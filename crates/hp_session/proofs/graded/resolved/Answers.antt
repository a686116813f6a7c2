use Rattle.std.proofs.Common.{[], ◌∷◌, ◌++◌, length, ap, sym, ◌∙◌, arith}
use Rattle.std.proofs.lemmas.List.FromFn.{map-range_with_len_more}
use Rattle.hp_session.specs.ResolutionAnswers.{resolved_map}
use Rattle.hp_session.proofs.KeptResolutions.{numbers-of_map}
use Rattle.hp_session.proofs.graded.resolved.Goals as goal

pub resolved_map-requires-clause-numbers : goal.resolved_map-requires-clause-numbers
resolved_map-requires-clause-numbers g c =
    let minimal = c.complex.ensures.of in
    let test = c.loop-k-test.true in
    let many = c.len-many.ensures.value ∙ ap length c.complex.ensures.value ∙ sym minimal.frame.resolution.one_each in
    c.as_slice.ensures.value
    ∙ numbers-of_map (λ n. n.items) c.in_ok-numbers.numbers.items c.args.res.now.degrees c.loop-k.k c.index.result.now
    c.in_ok-numbers.ensures (omega (arith, test, many)) c.index.ensures

pub loop-k-preserved : goal.loop-k-preserved
loop-k-preserved g c =
    let k = c.loop-k.k in
    let same = c.in_ok-resolved_map.ensures in
    c.in_ok-push.ensures.items ∙ (λ i. c.loop-k.invariant i ++ same i ∷ [])
    ∙ sym (map-range_with_len_more (resolved_map c.args.res.now) 0 k k (omega arith))
