use Rattle.std.proofs.Common.{◌≡◌, ℕ, arith, ◌+◌, ◌-◌, List, [], ◌++◌, map, length, take, drop, suc, slice_index_or, remove, sym, ap, ◌∙◌}
use Rattle.std.proofs.lemmas.List.{get_or_default, take_rest, map-append}
use Rattle.hp_flats.specs.Levels.{reduced}
use Rattle.hp_flats.proofs.values.reduced_values.Goals as goal

next : (q : ℕ) → q + 1 ≡ suc q
next q = omega arith

pub returns : goal.returns
returns g c =
    let rows = c.args.rows.now in
    let q = c.args.q in
    let p = c.index-rows-q.result in
    let f = reduced g.K.Ring.ring p c.args.i in
    let same : p ≡ slice_index_or rows q [] = c.index-rows-q.is ∙ get_or_default rows q p [] c.requires.inside in
    c.of.ensures ∙ c.in_ok-push_reduced-2.ensures
    ∙ ap (λ ws. ws ++ map f (take (length rows - (q + 1)) (drop (q + 1) rows))) (c.in_ok-push_reduced.ensures ∙ ap (λ ws. ws ++ map f (take q rows)) c.new-made.ensures.items)
    ∙ ap (λ ws. map f (take q rows) ++ map f ws) (take_rest rows (q + 1) ∙ ap (λ k. drop k rows) (next q))
    ∙ sym (map-append f (take q rows) (drop (suc q) rows))
    ∙ ap (λ (w : List _). map (reduced g.K.Ring.ring w c.args.i) (remove rows q)) same
