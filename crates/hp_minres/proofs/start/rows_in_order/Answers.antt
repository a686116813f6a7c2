use Rattle.std.proofs.Common.{◌≡◌, ◌++◌, ◌∷◌, ◌∙◌, [], get_or, map, ap, sym}
use Rattle.std.proofs.lemmas.List.{get_or_default}
use Rattle.hp_minres.proofs.LoopLists.{map_take_more}
use Rattle.hp_minres.proofs.start.rows_in_order.Goals as goal

pub loop-k-preserved : goal.loop-k-preserved
loop-k-preserved g c =
    let rows = c.args.m.now.rows in
    let columns = c.args.columns.now in
    let x = get_or c.args.rows.now c.loop-k.k 0 in
    let here : c.in_ok-row.row ≡ map (λ j. get_or (get_or rows x []) j []) columns =
    c.in_ok-row.ensures ∙ ap (λ r. map (λ j. get_or r j []) columns) c.row-old.ensures.value in
    c.in_ok-push.ensures.items ∙ (λ t. c.loop-k.invariant t ++ here t ∷ [])
    ∙ sym (map_take_more (λ i. map (λ j. get_or (get_or rows i []) j []) columns) c.loop-k.k c.args.rows.now x c.loop-k-test.true
    (get_or_default c.args.rows.now c.loop-k.k 0 x c.loop-k-test.true))
