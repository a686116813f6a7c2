use Rattle.std.proofs.Common.{◌≡◌, ◌<◌, true, List, [], ◌∷◌, ◌++◌, All, IsFalse, map, take, length, sym, ap, subst, ◌∙◌, arith}
use Rattle.std.proofs.lemmas.List.{get_or_read, map_more}
use Rattle.std.proofs.lemmas.List.Elements.{All-push}
use Rattle.hp_algebra.specs.Rows.{IsRow, is_zero_row}
use Rattle.hp_arr.specs.Operations.{first_place}
use Rattle.hp_arr.proofs.Setting.{setting}
use Rattle.hp_circuits.specs.RowSteps.{reduced}
use Rattle.hp_circuits.specs.NbcSearch.{row_at, rows_below, are_nonzero}
use Rattle.hp_circuits.proofs.NbcSteps.{some-zero, all-nonzero, reduced-kept}
use Rattle.hp_circuits.proofs.nbc_search.remainders_below.Goals as goal

pub returns-then-is_zero-clause-none : goal.returns-then-is_zero-clause-none
returns-then-is_zero-clause-none g c =
    let ring = g.K.Ring.ring in
    let rows = c.args.rows.now in
    let m = c.args.m in
    let k = c.loop-k.k in
    let v : c.as_slice-top.result.now ≡ row_at rows m = c.as_slice-top.ensures ∙ get_or_read rows m c.index-rows-m.result c.requires.within c.index-rows-m.is [] in
    let q : c.first_entry-place.result.0 ≡ first_place ring (row_at rows m) = c.first_entry-place.ensures.place ∙ ap (first_place ring) v in
    let row : c.as_slice.result.now ≡ row_at rows k = c.as_slice.ensures ∙ get_or_read rows k c.index-rows-k.result (omega (arith, c.loop-k-test.true, c.requires.within)) c.index-rows-k.is [] in
    let w : c.in_ok-rest.rest ≡ reduced ring g.K.Field.inverse c.first_entry-place.result.0 c.as_slice-top.result.now (row_at rows k) =
    c.in_ok-rest.ensures ∙ ap (reduced ring g.K.Field.inverse c.first_entry-place.result.0 c.as_slice-top.result.now) row in
    let z : is_zero_row ring c.in_ok-rest.rest ≡ true = ap (is_zero_row ring) (sym c.as_slice-in-loop-k.ensures) ∙ sym c.is_zero.ensures ∙ c.if-is_zero.true in
    λ _. some-zero ring g.K.Field.inverse c.first_entry-place.result.0 c.as_slice-top.result.now m k rows c.in_ok-rest.rest c.loop-k-test.true c.requires.within q v w z

pub loop-k-preserved : goal.loop-k-preserved
loop-k-preserved g c =
    let S = setting g.met.K.Field.field_laws g.met.K.FiniteField.numbering c.len-lawful.ensures.lawful in
    let ring = g.K.Ring.ring in
    let rows = c.args.rows.now in
    let m = c.args.m in
    let k = c.loop-k.k in
    let in_rows : k < length rows = omega (arith, c.loop-k-test.true, c.requires.within) in
    let v : c.as_slice-top.result.now ≡ row_at rows m = c.as_slice-top.ensures ∙ get_or_read rows m c.index-rows-m.result c.requires.within c.index-rows-m.is [] in
    let q : c.first_entry-place.result.0 ≡ first_place ring (row_at rows m) = c.first_entry-place.ensures.place ∙ ap (first_place ring) v in
    let row : c.as_slice.result.now ≡ row_at rows k = c.as_slice.ensures ∙ get_or_read rows k c.index-rows-k.result in_rows c.index-rows-k.is [] in
    let f = reduced ring g.K.Field.inverse c.first_entry-place.result.0 c.as_slice-top.result.now in
    let w : c.in_ok-rest.rest ≡ f (row_at rows k) = c.in_ok-rest.ensures ∙ ap f row in
    let Row : List _ → Type 0 = IsRow ring c.args.arr.now.dim in
    let kept : Row c.in_ok-rest.rest =
    subst Row (sym (w ∙ (λ i. reduced ring g.K.Field.inverse (q i) (v i) (row_at rows k)))) (reduced-kept S rows m (row_at rows k) c.requires.rows c.requires.nonzero c.requires.within (c.requires.rows k [] in_rows)) in
    let off : IsFalse (is_zero_row ring c.in_ok-rest.rest) = ap (is_zero_row ring) (sym c.as_slice-in-loop-k.ensures) ∙ sym c.is_zero.ensures ∙ c.if-is_zero.false in
    let Off : List _ → Type 0 = λ row. IsFalse (is_zero_row ring row) in
    let items = c.in_ok-push.ensures.items in
    record {
      made = items ∙ (λ i. c.loop-k.invariant.made i ++ w i ∷ []) ∙ sym (map_more f rows k [] in_rows);
      rows = subst (All Row) (sym items) (All-push Row c.loop-k.below.items c.in_ok-rest.rest c.loop-k.invariant.rows kept);
      nonzero = subst (All Off) (sym items) (All-push Off c.loop-k.below.items c.in_ok-rest.rest c.loop-k.invariant.nonzero off);
    }

pub returns-clause-free : goal.returns-clause-free
returns-clause-free g c =
    let ring = g.K.Ring.ring in
    let rows = c.args.rows.now in
    let m = c.args.m in
    let v : c.as_slice-top.result.now ≡ row_at rows m = c.as_slice-top.ensures ∙ get_or_read rows m c.index-rows-m.result c.requires.within c.index-rows-m.is [] in
    let q : c.first_entry-place.result.0 ≡ first_place ring (row_at rows m) = c.first_entry-place.ensures.place ∙ ap (first_place ring) v in
    let end : c.loop-k.k ≡ m = omega (arith, c.loop-k-test.false, c.loop-k.auto.k-end) in
    let made : c.loop-k.below.items ≡ rows_below ring g.K.Field.inverse m rows =
    c.loop-k.invariant.made ∙ (λ i. map (reduced ring g.K.Field.inverse (q i) (v i)) (take (end i) rows)) in
    ap (are_nonzero ring) (sym made) ∙ all-nonzero ring g.K.Field.inverse c.loop-k.below.items c.loop-k.invariant.nonzero
