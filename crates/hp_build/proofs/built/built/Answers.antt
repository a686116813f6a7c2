use Rattle.std.proofs.Common.{◌≡◌, None, subst, arith}
use Rattle.hp_arr.specs.Arrangement.{Arrangement, IsArrangement}
use Rattle.hp_arr.specs.FormFaults.{too_many_fault}
use Rattle.hp_arr.proofs.Faultless.{too_many-none, faultless-from_IsArrangement}
use Rattle.hp_build.proofs.built.built.Goals as goal

pub of_lawful-requires : goal.of_lawful-requires
of_lawful-requires g c =
    let numbers = g.K.FiniteField.numbers in
    let few : too_many_fault numbers c.args.forms.items ≡ None =
    too_many-none numbers c.args.forms.items (omega (arith, c.len-count.ensures, c.if-count-gt-MAX_FORMS.false))
    (omega (arith, c.len-count.ensures, c.if-count-ORDER.false, c.ORDER.ensures, g.met.K.FiniteField.order)) in
    c.requires.lawful few

pub returns-clause-faultless : goal.returns-clause-faultless
returns-clause-faultless g c =
    let ring = g.K.Ring.ring in
    let numbers = g.K.FiniteField.numbers in
    let arr : Arrangement g.row.K.Denot = record { dim = c.args.l; forms = c.args.forms.items } in
    let lawful : IsArrangement ring numbers arr = subst (IsArrangement ring numbers) c.of_lawful.ensures.value c.of_lawful.ensures.lawful in
    faultless-from_IsArrangement g.met.K.Field.field_laws g.met.K.FiniteField.numbering arr lawful
