use Rattle.std.proofs.Common.{◌≡◌, ℕ, ◌+◌, List, [], ◌∷◌, ◌++◌, map, sym, ap, subst, ◌∙◌, arith}
use Rattle.std.proofs.lemmas.List.FromFn.{map-range_with_len_more}
use Rattle.hp_lists.specs.Lists.{one_to}
use Rattle.hp_algebra.specs.Rows.{IsRow, unit_row}
use Rattle.hp_algebra.proofs.UnitRows.{unit-row}
use Rattle.hp_arr.specs.Operations.{cone}
use Rattle.hp_flats.specs.Levels.{values_of}
use Rattle.hp_flats.proofs.values.unit_values.Goals as goal

pub values_at-requires : goal.values_at-requires
values_at-requires g c =
    let ring = g.K.Ring.ring in
    let arr = c.args.aff.now in
    let e : c.deref.result.now ≡ unit_row ring (arr.dim + 1) (c.loop-k.k + 1) =
    c.deref.ensures.value ∙ c.in_ok-point.ensures ∙ ap (λ w. unit_row ring (w + 1) (c.loop-k.k + 1)) c.dim.ensures.value in
    subst (IsRow ring (arr.dim + 1)) (sym e) (unit-row g.met.K.Ring.ring_laws (arr.dim + 1) (c.loop-k.k + 1))

pub loop-k-preserved : goal.loop-k-preserved
loop-k-preserved g c =
    let k = c.loop-k.k in
    let ring = g.K.Ring.ring in
    let arr = c.args.aff.now in
    let f : ℕ → List g.row.K.Denot = λ j. values_of ring (cone ring arr.dim arr.forms) (unit_row ring (arr.dim + 1) j) in
    c.in_ok-push.ensures.items
    ∙ ap (λ rows. rows ++ c.in_ok-values_at.field-0 ∷ []) c.loop-k.invariant
    ∙ ap (λ v. map f (one_to k) ++ v ∷ []) (c.in_ok-values_at.ensures ∙ ap (values_of ring (cone ring arr.dim arr.forms)) (c.deref.ensures.value ∙ c.in_ok-point.ensures ∙ ap (λ w. unit_row ring (w + 1) (k + 1)) c.dim.ensures.value))
    ∙ sym (map-range_with_len_more f 1 k (k + 1) (omega arith))
