use Rattle.std.proofs.Common.{◌≡◌, ◌<◌, ◌+◌, [], ℕ, true, false, IsFalse, IsTrue, length, sym, ap, ◌∙◌, arith}
use Rattle.std.proofs.lemmas.List.{get_or_read}
use Rattle.hp_algebra.specs.Rows.{is_zero_row}
use Rattle.hp_lists.proofs.Members.{not_both}
use Rattle.hp_arr.specs.Operations.{first_place}
use Rattle.hp_circuits.specs.RowSteps.{reduced}
use Rattle.hp_circuits.specs.NbcSearch.{row_at, rows_below, are_nonzero}
use Rattle.hp_circuits.proofs.BrokenSteps.{next-holds, row-below, none-zero}
use Rattle.hp_circuits.proofs.broken.first_zero.Goals as goal

pub loop-k-init : goal.loop-k-init
loop-k-init g c = λ j l. absurd (omega (arith, l))

pub returns-then-is_zero-clause-zero : goal.returns-then-is_zero-clause-zero
returns-then-is_zero-clause-zero g c =
    let ring = g.K.Ring.ring in
    let inverse = g.K.Field.inverse in
    let rows = c.args.rows.now in
    let m = c.args.m in
    let k = c.loop-k.k in
    let in_rows : k < length rows = omega (arith, c.loop-k-test.true, c.requires.within) in
    let v : c.as_slice-top.result.now ≡ row_at rows m = c.as_slice-top.ensures ∙ get_or_read rows m c.index-rows-m.result c.requires.within c.index-rows-m.is [] in
    let q : c.first_entry-place.result.0 ≡ first_place ring (row_at rows m) = c.first_entry-place.ensures.place ∙ ap (first_place ring) v in
    let row : c.as_slice.result.now ≡ row_at rows k = c.as_slice.ensures ∙ get_or_read rows k c.index-rows-k.result in_rows c.index-rows-k.is [] in
    let w : c.in_ok-rest.rest ≡ reduced ring inverse c.first_entry-place.result.0 c.as_slice-top.result.now (row_at rows k) =
    c.in_ok-rest.ensures ∙ ap (reduced ring inverse c.first_entry-place.result.0 c.as_slice-top.result.now) row in
    let at : row_at (rows_below ring inverse m rows) k ≡ c.in_ok-rest.rest =
    row-below ring inverse m rows c.requires.within c.first_entry-place.result.0 k c.as_slice-top.result.now c.in_ok-rest.rest c.loop-k-test.true q v w in
    ap (is_zero_row ring) at ∙ ap (is_zero_row ring) (sym c.as_slice-in-loop-k.ensures) ∙ sym c.is_zero.ensures ∙ c.if-is_zero.true

pub returns-then-is_zero-clause-first : goal.returns-then-is_zero-clause-first
returns-then-is_zero-clause-first g c = c.loop-k.invariant

pub loop-k-preserved : goal.loop-k-preserved
loop-k-preserved g c =
    let ring = g.K.Ring.ring in
    let inverse = g.K.Field.inverse in
    let rows = c.args.rows.now in
    let m = c.args.m in
    let k = c.loop-k.k in
    let in_rows : k < length rows = omega (arith, c.loop-k-test.true, c.requires.within) in
    let v : c.as_slice-top.result.now ≡ row_at rows m = c.as_slice-top.ensures ∙ get_or_read rows m c.index-rows-m.result c.requires.within c.index-rows-m.is [] in
    let q : c.first_entry-place.result.0 ≡ first_place ring (row_at rows m) = c.first_entry-place.ensures.place ∙ ap (first_place ring) v in
    let row : c.as_slice.result.now ≡ row_at rows k = c.as_slice.ensures ∙ get_or_read rows k c.index-rows-k.result in_rows c.index-rows-k.is [] in
    let w : c.in_ok-rest.rest ≡ reduced ring inverse c.first_entry-place.result.0 c.as_slice-top.result.now (row_at rows k) =
    c.in_ok-rest.ensures ∙ ap (reduced ring inverse c.first_entry-place.result.0 c.as_slice-top.result.now) row in
    let at : row_at (rows_below ring inverse m rows) k ≡ c.in_ok-rest.rest =
    row-below ring inverse m rows c.requires.within c.first_entry-place.result.0 k c.as_slice-top.result.now c.in_ok-rest.rest c.loop-k-test.true q v w in
    next-holds (λ j. IsFalse (is_zero_row ring (row_at (rows_below ring inverse m rows) j))) k c.loop-k.invariant
    (ap (is_zero_row ring) at ∙ ap (is_zero_row ring) (sym c.as_slice-in-loop-k.ensures) ∙ sym c.is_zero.ensures ∙ c.if-is_zero.false)

pub unreachable-requires : goal.unreachable-requires
unreachable-requires g c =
    let ring = g.K.Ring.ring in
    let inverse = g.K.Field.inverse in
    let rows = c.args.rows.now in
    let m = c.args.m in
    absurd (not_both (are_nonzero ring (rows_below ring inverse m rows))
    (none-zero ring inverse m rows c.requires.within (λ j l. c.loop-k.invariant j (omega (arith, l, c.loop-k-test.false)))) c.requires.zero)
