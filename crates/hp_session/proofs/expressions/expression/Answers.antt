use Rattle.std.proofs.Common.{sym, subst, arith}
use Rattle.hp_arr.proofs.Setting.{setting}
use Rattle.hp_os.specs.OrlikSolomon.{IsElement}
use Rattle.hp_session.proofs.ExpressionElements.{element-expression, have_indices}
use Rattle.hp_session.proofs.GeneratorRefusals.{all_indices}
use Rattle.hp_session.proofs.expressions.expression.Goals as goal

pub sum-requires : goal.sum-requires
sum-requires g c =
    let S = setting g.met.K.Field.field_laws g.met.K.FiniteField.numbering c.len-lawful.ensures.lawful in
    let ps = c.args.products.now in
    have_indices S (omega (arith, c.len-lawful.ensures.lawful.few_forms)) ps (all_indices c.args.arr.now ps c.in_ok-check_products.ensures.accepted)

pub returns-clause-element : goal.returns-clause-element
returns-clause-element g c =
    let S = setting g.met.K.Field.field_laws g.met.K.FiniteField.numbering c.len-lawful.ensures.lawful in
    let ps = c.args.products.now in
    let arr = c.args.arr.now in
    subst (IsElement g.K.Ring.ring g.K.FiniteField.numbers arr) (sym c.in_ok-sum.ensures)
    (element-expression S ps (all_indices arr ps c.in_ok-check_products.ensures.accepted))
