use Rattle.std.proofs.Common.{◌≡◌, ◌+◌, ◌-◌, ◌≤◌, [], ◌∷◌, ◌++◌, All, cond, take, length, get_or, sym, ap, ◌∙◌, subst, arith}
use Rattle.std.proofs.lemmas.List.{get_or_read, take_all}
use Rattle.hp_algebra.specs.Rows.{IsRow, is_zero_row, same_row}
use Rattle.hp_lists.specs.Lists.{list_any}
use Rattle.hp_arr.specs.Arrangement.{form}
use Rattle.hp_arr.specs.Operations.{deletion, normalised, restricted_form}
use Rattle.hp_arr.proofs.ConePoints.{AffineSetting}
use Rattle.hp_arr.proofs.AffineDeletion.{deletion-lawful}
use Rattle.hp_arr.proofs.AffineRestriction.{restricted-is_row}
use Rattle.hp_arr.proofs.KeptRows.{cut-read, kept-more, kept_from, restriction-forms}
use Rattle.hp_arr.proofs.affine.Aff.restricted_rows.Goals as goal

pub restricted_form-requires-clause-widths : goal.restricted_form-requires-clause-widths
restricted_form-requires-clause-widths g c =
    let A : AffineSetting g.row.K.Denot = record {
      ring = g.K.Ring.ring;
      inverse = g.K.Field.inverse;
      numbers = g.K.FiniteField.numbers;
      arr = c.args.self.now;
      field = g.met.K.Field.field_laws;
      num = g.met.K.FiniteField.numbering;
      lawful = c.dim-dim.ensures.lawful;
    } in
    let ring = g.K.Ring.ring in
    let inverse = g.K.Field.inverse in
    let arr = c.args.self.now in
    let i = c.args.i in
    let others = c.args.others.now in
    let k = c.loop-other.other-index in
    let a = c.row-row.result.now in
    let rows : All (IsRow ring (arr.dim + 1)) others = subst (All (IsRow ring (arr.dim + 1))) (sym c.requires.others) (deletion-lawful A i c.requires.low c.requires.high).rows in
    let read : c.as_slice.result.now ≡ get_or others k [] = c.as_slice.ensures ∙ get_or_read others k c.other-item.result c.loop-other-test.true c.other-item.is [] in
    ap length read ∙ (rows k [] c.loop-other-test.true).0 ∙ sym c.row-row.ensures.row.0

pub push_if_meets-requires-clause-values : goal.push_if_meets-requires-clause-values
push_if_meets-requires-clause-values g c =
    let A : AffineSetting g.row.K.Denot = record {
      ring = g.K.Ring.ring;
      inverse = g.K.Field.inverse;
      numbers = g.K.FiniteField.numbers;
      arr = c.args.self.now;
      field = g.met.K.Field.field_laws;
      num = g.met.K.FiniteField.numbering;
      lawful = c.dim-dim.ensures.lawful;
    } in
    let ring = g.K.Ring.ring in
    let inverse = g.K.Field.inverse in
    let arr = c.args.self.now in
    let i = c.args.i in
    let others = c.args.others.now in
    let k = c.loop-other.other-index in
    let a = c.row-row.result.now in
    let rows : All (IsRow ring (arr.dim + 1)) others = subst (All (IsRow ring (arr.dim + 1))) (sym c.requires.others) (deletion-lawful A i c.requires.low c.requires.high).rows in
    let x = get_or others k [] in
    let read : c.as_slice.result.now ≡ x = c.as_slice.ensures ∙ get_or_read others k c.other-item.result c.loop-other-test.true c.other-item.is [] in
    let wide : c.dim-dim.result ≤ length a = (let w = c.row-row.ensures.row.0 in omega (arith, w, c.dim-dim.ensures.value)) in
    let put : c.in_ok-cut.cut.items ≡ restricted_form ring inverse arr.dim (form arr i) x =
    cut-read ring inverse arr i c.dim-dim.result a c.as_slice.result.now x c.in_ok-cut.cut.items c.last_entry-place.result.0 c.last_entry-place.result.1 wide
    c.last_entry-place.ensures.within c.last_entry-place.ensures.place c.last_entry-place.ensures.inverse c.dim-dim.ensures.value c.row-row.ensures.entries read c.in_ok-cut.ensures in
    subst (All ring.IsValue) (sym put) (restricted-is_row A i c.requires.low c.requires.high x (rows k [] c.loop-other-test.true)).1

pub push_if_meets-requires-clause-width : goal.push_if_meets-requires-clause-width
push_if_meets-requires-clause-width g c =
    let A : AffineSetting g.row.K.Denot = record {
      ring = g.K.Ring.ring;
      inverse = g.K.Field.inverse;
      numbers = g.K.FiniteField.numbers;
      arr = c.args.self.now;
      field = g.met.K.Field.field_laws;
      num = g.met.K.FiniteField.numbering;
      lawful = c.dim-dim.ensures.lawful;
    } in
    let ring = g.K.Ring.ring in
    let inverse = g.K.Field.inverse in
    let arr = c.args.self.now in
    let i = c.args.i in
    let others = c.args.others.now in
    let k = c.loop-other.other-index in
    let a = c.row-row.result.now in
    let rows : All (IsRow ring (arr.dim + 1)) others = subst (All (IsRow ring (arr.dim + 1))) (sym c.requires.others) (deletion-lawful A i c.requires.low c.requires.high).rows in
    let x = get_or others k [] in
    let read : c.as_slice.result.now ≡ x = c.as_slice.ensures ∙ get_or_read others k c.other-item.result c.loop-other-test.true c.other-item.is [] in
    let wide : c.dim-dim.result ≤ length a = (let w = c.row-row.ensures.row.0 in omega (arith, w, c.dim-dim.ensures.value)) in
    let put : c.in_ok-cut.cut.items ≡ restricted_form ring inverse arr.dim (form arr i) x =
    cut-read ring inverse arr i c.dim-dim.result a c.as_slice.result.now x c.in_ok-cut.cut.items c.last_entry-place.result.0 c.last_entry-place.result.1 wide
    c.last_entry-place.ensures.within c.last_entry-place.ensures.place c.last_entry-place.ensures.inverse c.dim-dim.ensures.value c.row-row.ensures.entries read c.in_ok-cut.ensures in
    let long : length c.in_ok-cut.cut.items ≡ arr.dim = ap length put ∙ (restricted-is_row A i c.requires.low c.requires.high x (rows k [] c.loop-other-test.true)).0 in
    omega (arith, long, c.dim-dim.ensures.value)

pub loop-other-preserved : goal.loop-other-preserved
loop-other-preserved g c =
    let A : AffineSetting g.row.K.Denot = record {
      ring = g.K.Ring.ring;
      inverse = g.K.Field.inverse;
      numbers = g.K.FiniteField.numbers;
      arr = c.args.self.now;
      field = g.met.K.Field.field_laws;
      num = g.met.K.FiniteField.numbering;
      lawful = c.dim-dim.ensures.lawful;
    } in
    let ring = g.K.Ring.ring in
    let inverse = g.K.Field.inverse in
    let arr = c.args.self.now in
    let i = c.args.i in
    let others = c.args.others.now in
    let k = c.loop-other.other-index in
    let a = c.row-row.result.now in
    let rows : All (IsRow ring (arr.dim + 1)) others = subst (All (IsRow ring (arr.dim + 1))) (sym c.requires.others) (deletion-lawful A i c.requires.low c.requires.high).rows in
    let x = get_or others k [] in
    let read : c.as_slice.result.now ≡ x = c.as_slice.ensures ∙ get_or_read others k c.other-item.result c.loop-other-test.true c.other-item.is [] in
    let wide : c.dim-dim.result ≤ length a = (let w = c.row-row.ensures.row.0 in omega (arith, w, c.dim-dim.ensures.value)) in
    let put : c.in_ok-cut.cut.items ≡ restricted_form ring inverse arr.dim (form arr i) x =
    cut-read ring inverse arr i c.dim-dim.result a c.as_slice.result.now x c.in_ok-cut.cut.items c.last_entry-place.result.0 c.last_entry-place.result.1 wide
    c.last_entry-place.ensures.within c.last_entry-place.ensures.place c.last_entry-place.ensures.inverse c.dim-dim.ensures.value c.row-row.ensures.entries read c.in_ok-cut.ensures in
    let held = c.loop-other.kept.items in
    c.in_ok-push_if_meets.ensures
    ∙ (λ j. cond (is_zero_row ring (take (c.dim-dim.ensures.value j - 1) (put j))) held
    (cond (list_any (same_row ring (normalised ring inverse (put j))) held) held (held ++ normalised ring inverse (put j) ∷ [])))
    ∙ kept-more g.met.K.Field.field_laws (arr.dim - 1) (restricted_form ring inverse arr.dim (form arr i)) others k held c.loop-other-test.true
    (λ m d h. (restricted-is_row A i c.requires.low c.requires.high (get_or others m d) (rows m d h)).1) c.loop-other.invariant

pub returns : goal.returns
returns g c =
    let ring = g.K.Ring.ring in
    let inverse = g.K.Field.inverse in
    let arr = c.args.self.now in
    let i = c.args.i in
    let others = c.args.others.now in
    let k = c.loop-other.other-index in
    let all : take k others ≡ (deletion arr i).forms = take_all k others (omega (arith, c.loop-other-test.false)) ∙ c.requires.others in
    c.loop-other.invariant
    ∙ ap (kept_from g.met.K.Field.field_laws (arr.dim - 1) (restricted_form ring inverse arr.dim (form arr i))) all
    ∙ restriction-forms ring inverse arr i
