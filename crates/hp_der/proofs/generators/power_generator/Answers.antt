use Rattle.std.proofs.Common.{◌≡◌, ◌∙◌, ◌++◌, ◌+◌, ◌-◌, ◌<◌, [], All, length, slice_index_or, ap, sym, subst, arith}
use Rattle.std.proofs.lemmas.List.{get_or-map, length-map}
use Rattle.hp_poly.specs.Polynomials.{form_power}
use Rattle.hp_graded.specs.EssentialRows.{essential_form}
use Rattle.hp_graded.proofs.EssentialForms.{essential_form-row}
use Rattle.hp_der.specs.DerivationModules.{extended_width, in_component, power_of}
use Rattle.hp_der.specs.EssentialGenerators.{essential_arrangement}
use Rattle.hp_der.proofs.generators.power_generator.Goals as goal

pub form_power-requires-clause-variables : goal.form_power-requires-clause-variables
form_power-requires-clause-variables g c =
    let row = c.form.ensures.row in
    let ps = c.args.pivots.now in
    let is = essential_form-row g.met.K.Ring.ring_laws c.args.arr.now.dim ps c.form.result.now row in
    let same = ap length (c.as_slice.ensures.value ∙ c.in_ok-form.ensures ∙ ap (λ n. essential_form g.K.Ring.ring n ps c.form.result.now) row.0) ∙ is.0 in
    omega (arith, same, c.len.ensures.lawful.dim_high)

pub form_power-requires-clause-values : goal.form_power-requires-clause-values
form_power-requires-clause-values g c =
    let row = c.form.ensures.row in
    let ps = c.args.pivots.now in
    let is = essential_form-row g.met.K.Ring.ring_laws c.args.arr.now.dim ps c.form.result.now row in
    let same = c.as_slice.ensures.value ∙ c.in_ok-form.ensures ∙ ap (λ n. essential_form g.K.Ring.ring n ps c.form.result.now) row.0 in
    subst (All g.K.Ring.ring.IsValue) (sym same) is.1

pub returns : goal.returns
returns g c =
    let ring = g.K.Ring.ring in
    let arr = c.args.arr.now in
    let m = c.args.m.now in
    let i = c.args.i in
    let ps = c.args.pivots.now in
    let less = essential_arrangement ring arr m ps in
    let inside : i - 1 < length arr.forms = omega (arith, c.requires.low, c.requires.high) in
    let form : c.as_slice.result.now ≡ slice_index_or less.forms (i - 1) [] =
    c.as_slice.ensures.value ∙ c.in_ok-form.ensures ∙ ap (λ n. essential_form ring n ps c.form.result.now) c.form.ensures.row.0
    ∙ ap (essential_form ring arr.dim ps) c.form.ensures.coefficients ∙ sym (get_or-map (essential_form ring arr.dim ps) arr.forms (i - 1) [] [] inside) in
    let power : c.in_ok-power.power ≡ power_of ring less m i =
    c.in_ok-power.ensures ∙ ap (λ a. form_power ring a (slice_index_or m (i - 1) 0)) form in
    let width : c.len.result + c.dim.result ≡ extended_width ring less m =
    (λ x. c.len.ensures.value x + c.dim.ensures.value x) ∙ ap (λ n. n + arr.dim) (sym (length-map arr.forms (essential_form ring arr.dim ps))) in
    c.new-2.ensures.value ∙ c.in_ok-entries.ensures ∙ (λ x. c.new.ensures.items x ++ in_component (width x) (power x) i)
