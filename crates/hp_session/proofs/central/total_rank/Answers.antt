use Rattle.std.proofs.Common.{◌≡◌, ◌⊎◌, ◌≤◌, ◌<◌, IfOk, IfErr, OnOk, length, subst, ◌∙◌, sym, ap}
use Rattle.hp_arr.specs.Flats.{flats, total_rank}
use Rattle.hp_arr.proofs.Setting.{setting}
use Rattle.hp_flats.specs.Bounds.{most_flats}
use Rattle.hp_flats.specs.declared.stop.FlatStop.{FlatStop}
use Rattle.hp_flats.specs.declared.stop.FlatStop.TheVariants.{Memory}
use Rattle.hp_session.proofs.CentralFlats.{total-same}
use Rattle.hp_session.proofs.central.total_rank.Goals as goal

pub returns : goal.returns
returns g c =
    let S = setting g.met.K.Field.field_laws g.met.K.FiniteField.numbering c.len-lawful.ensures.lawful in
    let e = c.in_ok-aff.ensures.value in
    subst (λ t. IfOk c.total_rank.result (λ r. r ≡ t)) (total-same S c.in_ok-aff.aff e) c.total_rank.ensures
