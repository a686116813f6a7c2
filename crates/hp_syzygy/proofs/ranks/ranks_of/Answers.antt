use Rattle.std.proofs.Common.{◌≡◌, ◌∙◌, length, ap, sym, subst, arith}
use Rattle.hp_syzygy.proofs.RankLaws.{ranks_are}
use Rattle.hp_syzygy.proofs.SortedKeys.{AreGiven, given-more, given-none, rank-less}
use Rattle.hp_syzygy.proofs.ranks.ranks_of.Goals as goal

pub returns : goal.returns
returns g c =
    let v = c.args.level.now in
    let keys = c.in_ok-keys.keys.items in
    let end : c.loop-k.k ≡ length keys = omega (arith, c.loop-k-test.false, c.loop-k.auto.k-end, c.len-k-end.ensures) in
    let given = subst (λ n. AreGiven keys n c.loop-k.ranks.items) end c.loop-k.invariant.given in
    ranks_are v c.requires.within c.requires.left c.loop-k.ranks.items
    (rank-less v keys c.loop-k.ranks.items c.in_ok-keys.ensures given)
    (omega (arith, c.loop-k.invariant.count, ap (λ w. length w.leads) c.level.view_is))
