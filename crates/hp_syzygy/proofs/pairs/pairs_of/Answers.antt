use Rattle.std.proofs.Common.{◌≡◌, ◌+◌, ◌++◌, ◌∙◌, suc, length, ap, sym, subst, arith}
use Rattle.hp_syzygy.proofs.KeptPairs.{ArePairsBelow, below-all, below-next}
use Rattle.hp_syzygy.proofs.pairs.pairs_of.Goals as goal

pub loop-i-preserved : goal.loop-i-preserved
loop-i-preserved c =
    let leads = c.args.leads.now in
    let ranks = c.args.ranks.now in
    let i = c.loop-i.i in
    let old = c.loop-i.pairs.items in
    let block = c.in_ok-block.block.items in
    let same = c.in_ok-add_all.ensures ∙ ap (λ b. old ++ b) c.as_slice.ensures.value in
    let one : suc i ≡ i + 1 = omega arith in
    let next = below-next leads ranks c.requires.monomials i old block c.loop-i.invariant c.in_ok-block.ensures in
    subst (λ k. ArePairsBelow leads ranks k c.add_all.new.pairs.items) one
    (subst (ArePairsBelow leads ranks (suc i)) (sym same) next)

pub returns : goal.returns
returns c =
    let leads = c.args.leads.now in
    let end : c.loop-i.i ≡ length leads = omega (arith, c.loop-i-test.false, c.loop-i.auto.i-end) in
    below-all leads c.args.ranks.now c.requires.monomials c.loop-i.pairs.items
    (subst (λ k. ArePairsBelow leads c.args.ranks.now k c.loop-i.pairs.items) end c.loop-i.invariant)
