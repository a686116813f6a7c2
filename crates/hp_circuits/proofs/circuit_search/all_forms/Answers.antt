use Rattle.std.proofs.Common.{ℕ, ◌+◌, [], ◌∷◌, ◌++◌, map, sym, ap, ◌∙◌, arith}
use Rattle.std.proofs.lemmas.List.FromFn.{map-range_with_len_more}
use Rattle.hp_lists.specs.Lists.{one_to}
use Rattle.hp_arr.specs.Arrangement.{form}
use Rattle.hp_circuits.specs.declared.circuit_search.Later.{Later}
use Rattle.hp_circuits.proofs.circuit_search.all_forms.Goals as goal

pub loop-k-preserved : goal.loop-k-preserved
loop-k-preserved g c =
    let k = c.loop-k.k in
    let f : ℕ → Later g.row.K.Denot = λ j. record { name = j; rest = form c.args.arr.now j; coefficients = [] } in
    c.in_ok-push.ensures.items
    ∙ ap (λ row. row ++ c.in_ok-own_remainder.field-0 ∷ []) c.loop-k.invariant
    ∙ ap (λ v. map f (one_to k) ++ v ∷ []) c.in_ok-own_remainder.ensures
    ∙ sym (map-range_with_len_more f 1 k (k + 1) (omega arith))
