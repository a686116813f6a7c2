use Rattle.std.proofs.Common.{sym, ap, ◌∙◌, subst}
use Rattle.hp_arr.specs.Arrangement.{IsAffineArrangement}
use Rattle.hp_arr.proofs.ConePoints.{AffineSetting}
use Rattle.hp_arr.proofs.AffineRestriction.{restriction-lawful}
use Rattle.hp_arr.proofs.KeptRows.{restriction-is}
use Rattle.hp_arr.proofs.affine.Aff.restrict.Goals as goal

pub restricted_rows-requires-clause-others : goal.restricted_rows-requires-clause-others
restricted_rows-requires-clause-others g c = c.deref.ensures.value ∙ ap (λ a. a.forms) c.others.view_is ∙ ap (λ a. a.forms) c.in_ok-others.ensures.value

pub of_lawful-requires : goal.of_lawful-requires
of_lawful-requires g c =
    let ring = g.K.Ring.ring in
    let arr = c.args.self.now in
    let A : AffineSetting g.row.K.Denot = record {
      ring = ring;
      inverse = g.K.Field.inverse;
      numbers = g.K.FiniteField.numbers;
      arr = arr;
      field = g.met.K.Field.field_laws;
      num = g.met.K.FiniteField.numbering;
      lawful = c.dim-dim.ensures.lawful;
    } in
    subst (IsAffineArrangement ring g.K.FiniteField.numbers) (sym (restriction-is ring g.K.Field.inverse arr c.args.i c.dim-dim.result c.in_ok-rows.rows.items c.dim-dim.ensures.value c.in_ok-rows.ensures))
    (restriction-lawful A c.args.i c.requires.low c.requires.high c.requires.dim)

pub returns-clause-value : goal.returns-clause-value
returns-clause-value g c =
    c.of_lawful.ensures.value
    ∙ restriction-is g.K.Ring.ring g.K.Field.inverse c.args.self.now c.args.i c.dim-dim.result c.in_ok-rows.rows.items c.dim-dim.ensures.value c.in_ok-rows.ensures
