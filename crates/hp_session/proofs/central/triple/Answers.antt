use Rattle.std.proofs.Common.{◌≡◌, ◌⊎◌, ◌≤◌, ◌<◌, IfOk, IfErr, OnOk, length, subst, ◌∙◌, sym, ap, arith}
use Rattle.std.proofs.lemmas.List.{length-map}
use Rattle.hp_arr.specs.Flats.{flats, total_rank}
use Rattle.hp_arr.proofs.Setting.{setting}
use Rattle.hp_flats.specs.Bounds.{most_flats}
use Rattle.hp_flats.specs.declared.stop.FlatStop.{FlatStop}
use Rattle.hp_flats.specs.declared.stop.FlatStop.TheVariants.{Memory}
use Rattle.hp_session.proofs.CentralFlats.{flats-same, poincare-same, deleted-same, restricted-same}
use Rattle.hp_session.proofs.central.triple.Goals as goal

pub returns-clause-whole : goal.returns-clause-whole
returns-clause-whole g c =
    let S = setting g.met.K.Field.field_laws g.met.K.FiniteField.numbering c.len-lawful.ensures.lawful in
    let e = c.in_ok-aff.ensures.value in
    subst (λ xs. IfOk c.triple.result (λ r. r.whole ≡ xs)) (poincare-same S c.in_ok-aff.aff e) c.triple.ensures.whole

pub returns-clause-deleted : goal.returns-clause-deleted
returns-clause-deleted g c =
    let S = setting g.met.K.Field.field_laws g.met.K.FiniteField.numbering c.len-lawful.ensures.lawful in
    let e = c.in_ok-aff.ensures.value in
    subst (λ xs. IfOk c.triple.result (λ r. r.deleted ≡ xs)) (deleted-same S c.in_ok-aff.aff e c.args.i c.requires.low c.requires.high) c.triple.ensures.deleted

pub returns-clause-restricted : goal.returns-clause-restricted
returns-clause-restricted g c =
    let S = setting g.met.K.Field.field_laws g.met.K.FiniteField.numbering c.len-lawful.ensures.lawful in
    let e = c.in_ok-aff.ensures.value in
    subst (λ xs. IfOk c.triple.result (λ r. r.restricted ≡ xs)) (restricted-same S c.in_ok-aff.aff e c.args.i c.requires.low c.requires.high c.requires.dim) c.triple.ensures.restricted

pub returns-clause-few : goal.returns-clause-few
returns-clause-few g c =
    let S = setting g.met.K.Field.field_laws g.met.K.FiniteField.numbering c.len-lawful.ensures.lawful in
    let e = c.in_ok-aff.ensures.value in
    subst (λ fs. OnOk c.triple.result (length fs ≤ most_flats)) (flats-same S c.in_ok-aff.aff e) c.triple.ensures.few

pub returns-clause-stop : goal.returns-clause-stop
returns-clause-stop g c =
    let S = setting g.met.K.Field.field_laws g.met.K.FiniteField.numbering c.len-lawful.ensures.lawful in
    let e = c.in_ok-aff.ensures.value in
    subst (λ fs. IfErr c.triple.result (λ (s : FlatStop). (s ≡ Memory) ⊎ (most_flats < length fs))) (flats-same S c.in_ok-aff.aff e) c.triple.ensures.stop

pub triple-requires-clause-high : goal.triple-requires-clause-high
triple-requires-clause-high g c =
    let n : length c.in_ok-aff.aff.forms ≡ length c.args.arr.now.forms = ap (λ a. length a.forms) c.in_ok-aff.ensures.value ∙ length-map c.args.arr.now.forms _ in
    omega (arith, n, c.requires.high)
