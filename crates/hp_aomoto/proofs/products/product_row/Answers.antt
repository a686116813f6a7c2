use Rattle.std.proofs.Common.{◌≡◌, ◌∷◌, ◌++◌, [], map, sym, ap, subst, ◌∙◌}
use Rattle.std.proofs.lemmas.Result.{IfOk-weaker}
use Rattle.hp_arr.proofs.Setting.{setting}
use Rattle.hp_exterior.specs.Exterior.{ext_of, wedge, ext_coefficient}
use Rattle.hp_os.specs.OrlikSolomon.{IsElement, IsNormalForm, basis_element, one_form}
use Rattle.hp_os.proofs.IdealSetting.{laws}
use Rattle.hp_os.proofs.ElementLaws.{element-monomial, element-wedge}
use Rattle.hp_aomoto.specs.ProductMatrices.{IsProductRow}
use Rattle.hp_aomoto.proofs.OneForms.{omega-element}
use Rattle.hp_aomoto.proofs.products.product_row.Goals as goal

pub normal_form-requires : goal.normal_form-requires
normal_form-requires g c =
    let ring = g.K.Ring.ring in
    let numbers = g.K.FiniteField.numbers in
    let S = setting g.met.K.Field.field_laws g.met.K.FiniteField.numbering c.len-lawful.ensures.lawful in
    let s = c.args.s in
    let ws = c.args.weights.now in
    let unit : c.in_ok-unit.unit ≡ basis_element ring s =
    c.in_ok-unit.ensures ∙ ap (ext_of ring) (c.in_ok-push.ensures.items ∙ (λ j. c.new-terms.ensures.items j ++ (s, c.unit.ensures.value j) ∷ [])) in
    let product : c.in_ok-product.product ≡ wedge ring (one_form ring numbers c.args.arr.now ws) (basis_element ring s) =
    c.in_ok-product.ensures.value ∙ (λ j. wedge ring (c.requires.omega j) (unit j)) in
    subst (λ x. IsElement ring numbers c.args.arr.now x) (sym product)
    (element-wedge S _ _ (omega-element S ws c.requires.values) (element-monomial S ring.one s (laws S).one_value c.requires.set))

pub returns-clause-row : goal.returns-clause-row
returns-clause-row g c =
    let ring = g.K.Ring.ring in
    let numbers = g.K.FiniteField.numbers in
    let s = c.args.s in
    let ws = c.args.weights.now in
    let unit : c.in_ok-unit.unit ≡ basis_element ring s =
    c.in_ok-unit.ensures ∙ ap (ext_of ring) (c.in_ok-push.ensures.items ∙ (λ j. c.new-terms.ensures.items j ++ (s, c.unit.ensures.value j) ∷ [])) in
    let product : c.in_ok-product.product ≡ wedge ring (one_form ring numbers c.args.arr.now ws) (basis_element ring s) =
    c.in_ok-product.ensures.value ∙ (λ j. wedge ring (c.requires.omega j) (unit j)) in
    let normal = subst (λ x. IsNormalForm ring numbers c.args.arr.now x c.in_ok-normal.normal) product c.in_ok-normal.ensures.value in
    IfOk-weaker c.coefficients.result (λ row. row.items ≡ map (λ t. ext_coefficient ring c.in_ok-normal.normal t) c.args.next.now) (λ row. IsProductRow ring numbers c.args.arr.now ws c.args.k s row.items)
    (λ row e. (c.in_ok-normal.normal, normal, e ∙ ap (map (λ t. ext_coefficient ring c.in_ok-normal.normal t)) c.requires.next)) c.coefficients.ensures
