use Rattle.std.proofs.Common.{ℕ, ◌+◌, [], ◌∷◌, ◌++◌, cond, eqb, map, sym, ap, ◌∙◌, arith}
use Rattle.std.proofs.lemmas.List.FromFn.{map-range_with_len_more}
use Rattle.hp_lists.specs.Lists.{one_to}
use Rattle.hp_algebra.proofs.row.unit_row.Goals as goal

pub loop-k-preserved : goal.loop-k-preserved
loop-k-preserved g c =
    let k = c.loop-k.k in
    let f : ℕ → g.row.F.Denot = λ j. cond (eqb j c.args.i) g.F.Ring.ring.one g.F.Ring.ring.zero in
    c.in_ok-push.ensures.items
    ∙ ap (λ row. row ++ c.unit_entry.result ∷ []) c.loop-k.invariant
    ∙ ap (λ v. map f (one_to k) ++ v ∷ []) c.unit_entry.ensures
    ∙ sym (map-range_with_len_more f 1 k (k + 1) (omega arith))
