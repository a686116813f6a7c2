use Rattle.std.proofs.Common.{◌==◌, ◌++◌, ◌∷◌, ◌∙◌, [], map, ap, sym, arith}
use Rattle.hp_lists.specs.Lists.{below}
use Rattle.hp_module.specs.Divisions.{tally}
use Rattle.hp_minres.proofs.LoopLists.{map_below_more}
use Rattle.hp_minres.proofs.numbers.counts.Goals as goal

pub loop-d-preserved : goal.loop-d-preserved
loop-d-preserved c = record {
  within = omega (arith, c.loop-d-test.true);
  value =
      c.in_ok-push.ensures.items ∙ (λ i. c.loop-d.invariant.value i ++ c.count.ensures i ∷ [])
      ∙ sym (map_below_more (λ d. tally (λ e. e == d) c.args.degrees.now) c.loop-d.d);
}

pub returns : goal.returns
returns c =
    c.loop-d.invariant.value
    ∙ ap (λ n. map (λ d. tally (λ e. e == d) c.args.degrees.now) (below n)) (omega (arith, c.loop-d.invariant.within, c.loop-d-test.false, c.highest-most.ensures))
