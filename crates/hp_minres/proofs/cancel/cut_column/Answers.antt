use Rattle.std.proofs.Common.{◌∙◌, [], map, remove, set, ap, arith}
use Rattle.std.proofs.lemmas.List.{get_or_default, set-set}
use Rattle.hp_minres.proofs.cancel.cut_column.Goals as goal

pub returns-in_ok-maps : goal.returns-in_ok-maps
returns-in_ok-maps g c =
    let xs = c.args.maps.now.items in
    let k = c.args.k in
    set-set xs k c.replace-rows.new.dest c.in_ok-maps.field-0
    ∙ ap (set xs k) (c.in_ok-maps.ensures ∙ ap (map (λ row. remove row c.args.r)) (c.replace-rows.ensures.value ∙ c.index_mut.ensures.value
    ∙ get_or_default xs k c.index_mut.result.now [] (omega (arith, c.if-k-len.true, c.len.ensures))))
