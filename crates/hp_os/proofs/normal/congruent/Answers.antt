use Rattle.hp_arr.proofs.Setting.{setting}
use Rattle.hp_os.proofs.NormalLaws.{congruent_exact}
use Rattle.hp_os.proofs.normal.congruent.Goals as goal

pub returns : goal.returns
returns g c =
    let S = setting g.met.K.Field.field_laws g.met.K.FiniteField.numbering c.len-lawful.ensures.lawful in
    let e = congruent_exact S c.args.x.now c.args.y.now c.in_ok-first.first c.in_ok-second.second
    c.requires.first.0.is_sum c.requires.second.0.is_sum c.in_ok-first.ensures.value c.in_ok-second.ensures.value in
    ((λ t. e.1 (c.equal.ensures.value.0 t)), λ p. c.equal.ensures.value.1 (e.0 p))
