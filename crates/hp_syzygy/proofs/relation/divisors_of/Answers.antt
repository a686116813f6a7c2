use Rattle.std.proofs.Common.{◌<◌, ◌∙◌, get_or, length, ap, arith}
use Rattle.std.proofs.lemmas.List.{take_all}
use Rattle.hp_syzygy.proofs.LevelDivisors.{level-divisors, member-nonzero}
use Rattle.hp_syzygy.proofs.relation.divisors_of.Goals as goal

pub push-requires-clause-nonzero : goal.push-requires-clause-nonzero
push-requires-clause-nonzero g c =
    let x = c.index.result.now in
    let k = c.loop-k.k in
    let same = ap (λ v. v.members) c.level.view_is in
    let l : k < length c.args.level.now.members = omega (arith, c.loop-k-test.true, c.len-k-end.ensures, ap length same) in
    member-nonzero c.requires.level k x l (c.index.ensures ∙ ap (λ ms. get_or ms k x) same)

pub returns-clause-leads : goal.returns-clause-leads
returns-clause-leads g c =
    let same = ap (λ v. v.members) c.level.view_is in
    level-divisors c.requires.level c.loop-k.invariant.divisors
    (c.loop-k.invariant.members ∙ take_all c.loop-k.k c.args.level.now.members (omega (arith, c.loop-k-test.false, c.len-k-end.ensures, ap length same)))
