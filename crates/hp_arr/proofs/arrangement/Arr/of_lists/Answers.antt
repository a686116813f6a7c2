use Rattle.std.proofs.Common.{◌≡◌, ◌∙◌, None, All, IfNone, sym, subst}
use Rattle.hp_arr.specs.FormFaults.{form_fault}
use Rattle.hp_arr.proofs.Faultless.{IsArrangement-from_faultless}
use Rattle.hp_arr.proofs.arrangement.Arr.of_lists.Goals as goal

pub of_lawful-requires : goal.of_lawful-requires
of_lawful-requires g c =
    let ring = g.K.Ring.ring in
    let numbers = g.K.FiniteField.numbers in
    let forms = c.args.forms.items in
    let none : form_fault ring numbers forms ≡ None = rw (← c.deref.ensures.value) (sym c.in_ok-fault.ensures.fault ∙ c.in_default.is) in
    let values : All (All ring.IsValue) forms = rw (← c.deref.ensures.value) (subst (λ fault. IfNone fault (All (All ring.IsValue) c.deref.result.now)) c.in_default.is c.in_ok-fault.ensures.values) in
    IsArrangement-from_faultless g.met.K.Field.field_laws g.met.K.FiniteField.numbering (record { dim = c.args.l; forms = forms }) c.requires.low c.requires.high (λ k d h. (c.requires.widths k d h, values k d h)) none
