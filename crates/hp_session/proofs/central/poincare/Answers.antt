use Rattle.std.proofs.Common.{◌≡◌, ◌⊎◌, ◌≤◌, ◌<◌, IfOk, IfErr, OnOk, length, subst, ◌∙◌, sym, ap}
use Rattle.hp_arr.specs.Flats.{flats, total_rank}
use Rattle.hp_arr.proofs.Setting.{setting}
use Rattle.hp_flats.specs.Bounds.{most_flats}
use Rattle.hp_flats.specs.declared.stop.FlatStop.{FlatStop}
use Rattle.hp_flats.specs.declared.stop.FlatStop.TheVariants.{Memory}
use Rattle.hp_session.proofs.CentralFlats.{flats-same, poincare-same}
use Rattle.hp_session.proofs.central.poincare.Goals as goal

pub returns-clause-value : goal.returns-clause-value
returns-clause-value g c =
    let S = setting g.met.K.Field.field_laws g.met.K.FiniteField.numbering c.len-lawful.ensures.lawful in
    let e = c.in_ok-aff.ensures.value in
    subst (λ xs. IfOk c.poincare.result (λ r. r.items ≡ xs)) (poincare-same S c.in_ok-aff.aff e) c.poincare.ensures.value

pub returns-clause-few : goal.returns-clause-few
returns-clause-few g c =
    let S = setting g.met.K.Field.field_laws g.met.K.FiniteField.numbering c.len-lawful.ensures.lawful in
    let e = c.in_ok-aff.ensures.value in
    subst (λ fs. OnOk c.poincare.result (length fs ≤ most_flats)) (flats-same S c.in_ok-aff.aff e) c.poincare.ensures.few

pub returns-clause-stop : goal.returns-clause-stop
returns-clause-stop g c =
    let S = setting g.met.K.Field.field_laws g.met.K.FiniteField.numbering c.len-lawful.ensures.lawful in
    let e = c.in_ok-aff.ensures.value in
    subst (λ fs. IfErr c.poincare.result (λ (s : FlatStop). (s ≡ Memory) ⊎ (most_flats < length fs))) (flats-same S c.in_ok-aff.aff e) c.poincare.ensures.stop
