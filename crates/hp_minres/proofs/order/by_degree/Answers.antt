use Rattle.std.proofs.Common.{◌++◌, ◌∷◌, ◌∙◌, [], get_or, map, ap, sym, arith}
use Rattle.std.proofs.lemmas.List.{take_all}
use Rattle.hp_lists.specs.Lists.{below}
use Rattle.hp_minres.proofs.LoopLists.{map_below_more, keys_of, sorted_order}
use Rattle.hp_minres.proofs.order.by_degree.Goals as goal

pub loop-k-preserved : goal.loop-k-preserved
loop-k-preserved c =
    let ds = c.args.degrees.now in
    let k = c.loop-k.k in
    c.in_ok-push.ensures.items ∙ ap (λ xs. xs ++ (get_or ds k 0, k) ∷ []) c.loop-k.invariant ∙ sym (map_below_more (λ i. (get_or ds i 0, i)) k)

pub returns : goal.returns
returns c =
    let ds = c.args.degrees.now in
    let sorted = c.sort_unstable.new.self.items in
    sorted_order ds c.loop-k.keys.items sorted c.loop-k-2.order.items
    (c.loop-k.invariant ∙ ap (keys_of ds) (ap below (omega (arith, c.loop-k-test.false, c.loop-k.auto.k-end))))
    c.sort_unstable.ensures.permutation c.sort_unstable.ensures.sorted
    (c.loop-k-2.invariant ∙ ap (map (λ key. key.1)) (take_all c.loop-k-2.k sorted (omega (arith, c.loop-k-2-test.false))))
