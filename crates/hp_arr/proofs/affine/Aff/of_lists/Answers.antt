use Rattle.std.proofs.Common.{◌≡◌, ◌∙◌, None, All, IfNone, sym, subst}
use Rattle.hp_arr.specs.FormFaults.{affine_fault}
use Rattle.hp_arr.proofs.AffineFaultless.{IsAffineArrangement-from_faultless}
use Rattle.hp_arr.proofs.affine.Aff.of_lists.Goals as goal

pub of_lawful-requires : goal.of_lawful-requires
of_lawful-requires g c =
    let ring = g.K.Ring.ring in
    let numbers = g.K.FiniteField.numbers in
    let rows = c.args.rows.items in
    let none : affine_fault ring numbers c.args.l rows ≡ None = rw (← c.deref.ensures.value) (sym c.in_ok-fault.ensures.fault ∙ c.in_default.is) in
    let values : All (All ring.IsValue) rows = rw (← c.deref.ensures.value) (subst (λ fault. IfNone fault (All (All ring.IsValue) c.deref.result.now)) c.in_default.is c.in_ok-fault.ensures.values) in
    IsAffineArrangement-from_faultless g.met.K.Field.field_laws g.met.K.FiniteField.numbering (record { dim = c.args.l; forms = rows }) c.requires.low c.requires.high (λ k d h. (c.requires.widths k d h, values k d h)) none
