use Rattle.std.proofs.Common.{◌≡◌, ℕ, ◌+◌, ◌≤◌, suc, [], ◌∷◌, ◌++◌, length, map, get_or, sym, ap, ◌∙◌, arith}
use Rattle.std.proofs.lemmas.List.{get_or_read}
use Rattle.std.proofs.lemmas.List.FromFn.{map-range_with_len_more}
use Rattle.hp_lists.specs.Lists.{one_to}
use Rattle.hp_algebra.specs.Ring.{dot_of}
use Rattle.hp_arr.specs.Arrangement.{form}
use Rattle.hp_arr.proofs.ConePoints.{AffineSetting, coned, cone-count, form-cone}
use Rattle.hp_flats.proofs.ConeKernels.{value-infinity}
use Rattle.hp_flats.proofs.values.values_at.Goals as goal

pub loop-j-preserved : goal.loop-j-preserved
loop-j-preserved g c =
    let A : AffineSetting g.row.K.Denot = record {
      ring = g.K.Ring.ring;
      inverse = g.K.Field.inverse;
      numbers = g.K.FiniteField.numbers;
      arr = c.args.aff.now;
      field = g.met.K.Field.field_laws;
      num = g.met.K.FiniteField.numbering;
      lawful = c.dim-dim.ensures.lawful;
    } in
    let ring = g.K.Ring.ring in
    let k = c.loop-j.j in
    let x = c.args.point.now in
    let f : ℕ → g.row.K.Denot = λ j. dot_of ring (form (coned A) j) x in
    let inside : k + 1 ≤ length c.args.aff.now.forms = omega (arith, c.loop-j-test.true, c.len-j-end.ensures.value) in
    let read : c.form_value.result ≡ f (k + 1) =
    c.form_value.ensures.value ∙ ap (λ a. dot_of ring a x) (c.row.ensures.entries ∙ sym (form-cone A (k + 1) (omega arith, inside))) in
    c.in_ok-push.ensures.items
    ∙ ap (λ row. row ++ c.form_value.result ∷ []) c.loop-j.invariant
    ∙ ap (λ v. map f (one_to k) ++ v ∷ []) read
    ∙ sym (map-range_with_len_more f 1 k (k + 1) (omega arith))

pub returns : goal.returns
returns g c =
    let A : AffineSetting g.row.K.Denot = record {
      ring = g.K.Ring.ring;
      inverse = g.K.Field.inverse;
      numbers = g.K.FiniteField.numbers;
      arr = c.args.aff.now;
      field = g.met.K.Field.field_laws;
      num = g.met.K.FiniteField.numbering;
      lawful = c.dim-dim.ensures.lawful;
    } in
    let ring = g.K.Ring.ring in
    let x = c.args.point.now in
    let n = length c.args.aff.now.forms in
    let f : ℕ → g.row.K.Denot = λ j. dot_of ring (form (coned A) j) x in
    let all : c.loop-j.j ≡ n = omega (arith, c.loop-j-test.false, c.loop-j.auto.j-end, c.len-j-end.ensures.value) in
    let last : c.index-point-dim.result ≡ f (suc n) =
    get_or_read x c.dim-dim.result c.index-point-dim.result (let e = c.requires.0 in omega (arith, e, c.dim-dim.ensures.value)) c.index-point-dim.is ring.zero
    ∙ ap (λ d. get_or x d ring.zero) c.dim-dim.ensures.value ∙ sym (value-infinity A x c.requires) in
    let next : 1 + n ≡ suc n = omega arith in
    c.of.ensures ∙ c.in_ok-push-2.ensures.items
    ∙ (λ i. (c.loop-j.invariant ∙ ap (λ m. map f (one_to m)) all) i ++ last i ∷ [])
    ∙ sym (map-range_with_len_more f 1 n (suc n) next)
    ∙ ap (λ m. map f (one_to m)) (more n ∙ sym (cone-count A))
  where
    more : (n : ℕ) → n + 1 ≡ suc n
    more n = omega arith
