use Rattle.std.proofs.Common.{◌≡◌, List, [], ◌∷◌, ◌++◌, All, cond, get_or, length, sym, ap, ◌∙◌, subst}
use Rattle.std.specs.Prelude.{remove}
use Rattle.hp_algebra.specs.Rows.{entry, is_zero_row, row_minus, row_scale, same_row}
use Rattle.hp_lists.specs.Lists.{list_any}
use Rattle.hp_arr.specs.Operations.{normalised, restricted_form}
use Rattle.hp_arr.proofs.FaultFacts.{form_made}
use Rattle.hp_arr.proofs.LawfulRestriction.{restricted_form-whole, restricted_form-row, restricted_form-nonzero, cut-more}
use Rattle.hp_arr.proofs.restriction.restricted_forms.Goals as goal

pub normalised-requires-clause-values : goal.normalised-requires-clause-values
normalised-requires-clause-values g c =
    let ring = g.K.Ring.ring in
    let a = c.args.a.now in
    let k = c.loop-other.other-index in
    let put : c.in_ok-row.row.items ≡ restricted_form ring g.K.Field.inverse (length a) a c.as_slice.result.now =
    c.in_ok-row.ensures ∙ (λ j. remove (row_minus ring c.as_slice.result.now (row_scale ring (ring.mul (entry ring c.as_slice.result.now (c.last_entry-place.ensures.place j)) (c.last_entry-place.ensures.inverse j)) a)) (c.last_entry-place.ensures.place j))
    ∙ sym (restricted_form-whole g.met.K.Field.field_laws a c.as_slice.result.now) in
    let row = form_made (restricted_form ring g.K.Field.inverse (length a) a) c.args.others.now k _ c.as_slice.result.now c.in_ok-row.row.items c.loop-other-test.true c.other-item.is c.as_slice.ensures put in
    subst (All ring.IsValue) (sym row)
    (restricted_form-row g.met.K.Field.field_laws a (get_or c.args.others.now k []) c.requires.values c.requires.nonzero (c.requires.rows k [] c.loop-other-test.true)).1

pub normalised-requires-clause-nonzero : goal.normalised-requires-clause-nonzero
normalised-requires-clause-nonzero g c =
    let ring = g.K.Ring.ring in
    let a = c.args.a.now in
    let k = c.loop-other.other-index in
    let put : c.in_ok-row.row.items ≡ restricted_form ring g.K.Field.inverse (length a) a c.as_slice.result.now =
    c.in_ok-row.ensures ∙ (λ j. remove (row_minus ring c.as_slice.result.now (row_scale ring (ring.mul (entry ring c.as_slice.result.now (c.last_entry-place.ensures.place j)) (c.last_entry-place.ensures.inverse j)) a)) (c.last_entry-place.ensures.place j))
    ∙ sym (restricted_form-whole g.met.K.Field.field_laws a c.as_slice.result.now) in
    let row = form_made (restricted_form ring g.K.Field.inverse (length a) a) c.args.others.now k _ c.as_slice.result.now c.in_ok-row.row.items c.loop-other-test.true c.other-item.is c.as_slice.ensures put in
    ap (is_zero_row ring) row
    ∙ restricted_form-nonzero g.met.K.Field.field_laws a (get_or c.args.others.now k []) c.requires.values c.requires.nonzero (c.requires.rows k [] c.loop-other-test.true) (c.requires.apart k [] c.loop-other-test.true)

pub loop-other-preserved : goal.loop-other-preserved
loop-other-preserved g c =
    let ring = g.K.Ring.ring in
    let inverse = g.K.Field.inverse in
    let a = c.args.a.now in
    let others = c.args.others.now in
    let k = c.loop-other.other-index in
    let cut : List g.row.K.Denot → List g.row.K.Denot = λ x. normalised ring inverse (restricted_form ring inverse (length a) a x) in
    let kept = c.loop-other.kept.items in
    let put : c.in_ok-row.row.items ≡ restricted_form ring inverse (length a) a c.as_slice.result.now =
    c.in_ok-row.ensures ∙ (λ j. remove (row_minus ring c.as_slice.result.now (row_scale ring (ring.mul (entry ring c.as_slice.result.now (c.last_entry-place.ensures.place j)) (c.last_entry-place.ensures.inverse j)) a)) (c.last_entry-place.ensures.place j))
    ∙ sym (restricted_form-whole g.met.K.Field.field_laws a c.as_slice.result.now) in
    let row : c.normalised.result.items ≡ cut (get_or others k []) =
    form_made cut others k _ c.as_slice.result.now c.normalised.result.items c.loop-other-test.true c.other-item.is c.as_slice.ensures (c.normalised.ensures ∙ ap (normalised ring inverse) put) in
    c.in_ok-push_if_new.ensures
    ∙ ap (λ r. cond (list_any (same_row ring r) kept) kept (kept ++ r ∷ [])) row
    ∙ cut-more g.met.K.Field.field_laws a others (record { values = c.requires.values; nonzero = c.requires.nonzero; rows = c.requires.rows; apart = c.requires.apart }) k kept c.loop-other-test.true c.loop-other.invariant
