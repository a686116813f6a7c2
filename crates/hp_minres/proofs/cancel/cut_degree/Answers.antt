use Rattle.std.proofs.Common.{◌∙◌, [], remove, set, ap}
use Rattle.std.proofs.lemmas.List.{get_or_default, set-set}
use Rattle.hp_minres.proofs.cancel.cut_degree.Goals as goal

pub returns : goal.returns
returns c =
    let xs = c.args.degrees.now.items in
    let k = c.args.k in
    set-set xs k c.replace.new.dest c.of-2.result
    ∙ ap (set xs k) (c.of-2.ensures ∙ c.remove-degree.ensures.items
    ∙ ap (λ ys. remove ys c.args.c) (c.into_vec-row.ensures ∙ c.replace.ensures.value ∙ c.index_mut.ensures.value
    ∙ get_or_default xs k c.index_mut.result.now [] c.requires.map))
