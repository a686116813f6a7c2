use Rattle.std.proofs.Common.{◌≡◌, ◌-◌, ap, ◌∙◌, subst, sym}
use Rattle.std.specs.Prelude.{remove}
use Rattle.hp_arr.specs.Arrangement.{IsAffineArrangement}
use Rattle.hp_arr.proofs.ConePoints.{AffineSetting}
use Rattle.hp_arr.proofs.AffineDeletion.{deletion-lawful}
use Rattle.hp_arr.proofs.affine.Aff.delete.Goals as goal

pub of_lawful-requires : goal.of_lawful-requires
of_lawful-requires g c =
    let arr = c.args.self.now in
    let A : AffineSetting g.row.K.Denot = record {
      ring = g.K.Ring.ring;
      inverse = g.K.Field.inverse;
      numbers = g.K.FiniteField.numbers;
      arr = arr;
      field = g.met.K.Field.field_laws;
      num = g.met.K.FiniteField.numbering;
      lawful = c.dim.ensures.lawful;
    } in
    let left : c.remove.new.self.items ≡ remove arr.forms (c.args.i - 1) =
    c.remove.ensures.items ∙ ap (λ rows. remove rows (c.args.i - 1)) (c.in_ok-rows.ensures ∙ c.deref.ensures.value ∙ ap (λ a. a.forms) c.self.view_is) in
    subst (IsAffineArrangement g.K.Ring.ring g.K.FiniteField.numbers) (λ j. record { dim = sym c.dim.ensures.value j; forms = sym left j })
    (deletion-lawful A c.args.i c.requires.low c.requires.high)
