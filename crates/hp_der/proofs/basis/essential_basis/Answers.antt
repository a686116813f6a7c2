use Rattle.std.proofs.Common.{rules, ◌∙◌, ap, sym, subst, length, IfErr}
use Rattle.std.proofs.lemmas.Result.{IfErr-weaker}
use Rattle.hp_linear.specs.Matrices.{IsEchelonForm}
use Rattle.hp_module.specs.ElimOrders.{elimination_order}
use Rattle.hp_groebner.specs.LimitRules.{IsStop, NeverStops}
use Rattle.hp_der.specs.CarriedBases.{coordinates}
use Rattle.hp_der.specs.DerivationModules.{IsExtended, second_blocks}
use Rattle.hp_der.proofs.CarriedAnswers.{essential-answer, essential-asked_degrees, essential-asked_widths, essential-basis, of-essential}
use Rattle.hp_der.proofs.EssentialBases.{IsEssentialMember, extended-never, extended-stop}
use Rattle.hp_der.proofs.ExtendedGenerators.{IsMultiArrangement}
use Rattle.hp_der.proofs.basis.essential_basis.Goals as goal

pub groebner-requires-clause-widths : goal.groebner-requires-clause-widths
groebner-requires-clause-widths g c =
    let lawful = c.len-forms.ensures.lawful in
    let ring = g.K.Ring.ring in
    let field = g.met.K.Field.field_laws in
    let arr = c.args.arr.now in
    let m = c.args.m.now in
    let is : IsMultiArrangement ring arr m = record { rows = lawful.rows; dim_high = lawful.dim_high; one_each = c.requires.each; most = c.requires.most } in
    let form = subst (IsEchelonForm ring (record { cols = arr.dim; rows = arr.forms }) c.in_ok-form.form) (sym c.as_slice.ensures.value) c.in_ok-form.ensures in
    let gens = c.as_slice-2.ensures.value ∙ c.in_ok-gens.ensures.generators in
    essential-asked_widths field arr m is form gens c.len-forms.ensures.value c.dim-dim.ensures.value

pub groebner-requires-clause-generators : goal.groebner-requires-clause-generators
groebner-requires-clause-generators g c =
    let lawful = c.len-forms.ensures.lawful in
    let ring = g.K.Ring.ring in
    let field = g.met.K.Field.field_laws in
    let arr = c.args.arr.now in
    let m = c.args.m.now in
    let is : IsMultiArrangement ring arr m = record { rows = lawful.rows; dim_high = lawful.dim_high; one_each = c.requires.each; most = c.requires.most } in
    let form = subst (IsEchelonForm ring (record { cols = arr.dim; rows = arr.forms }) c.in_ok-form.form) (sym c.as_slice.ensures.value) c.in_ok-form.ensures in
    let gens = c.as_slice-2.ensures.value ∙ c.in_ok-gens.ensures.generators in
    essential-asked_degrees field arr m is form gens c.len-forms.ensures.value c.dim-dim.ensures.value

pub returns-in_err-whole-clause-stop : goal.returns-in_err-whole-clause-stop
returns-in_err-whole-clause-stop g c =
    let lawful = c.len-forms.ensures.lawful in
    let ring = g.K.Ring.ring in
    let field = g.met.K.Field.field_laws in
    let arr = c.args.arr.now in
    let m = c.args.m.now in
    let is : IsMultiArrangement ring arr m = record { rows = lawful.rows; dim_high = lawful.dim_high; one_each = c.requires.each; most = c.requires.most } in
    let form = subst (IsEchelonForm ring (record { cols = arr.dim; rows = arr.forms }) c.in_ok-form.form) (sym c.as_slice.ensures.value) c.in_ok-form.ensures in
    let gens = c.as_slice-2.ensures.value ∙ c.in_ok-gens.ensures.generators in
    let result = c.from_residual-in_err-whole.result in
    IfErr-weaker result (IsStop (elimination_order (length arr.forms)) (IsEssentialMember field arr m is form) c.args.limits.now)
    (IsStop (elimination_order (length arr.forms)) (IsExtended ring arr m) c.args.limits.now) (extended-stop field arr m is form c.args.limits.now)
    (of-essential field arr m is form gens c.len-forms.ensures.value c.dim-dim.ensures.value
    (λ n N. IfErr result (IsStop (elimination_order n) N c.args.limits.now)) (search rules))

pub new-requires : goal.new-requires
new-requires g c =
    let lawful = c.len-forms.ensures.lawful in
    let ring = g.K.Ring.ring in
    let field = g.met.K.Field.field_laws in
    let arr = c.args.arr.now in
    let m = c.args.m.now in
    let is : IsMultiArrangement ring arr m = record { rows = lawful.rows; dim_high = lawful.dim_high; one_each = c.requires.each; most = c.requires.most } in
    let form = subst (IsEchelonForm ring (record { cols = arr.dim; rows = arr.forms }) c.in_ok-form.form) (sym c.as_slice.ensures.value) c.in_ok-form.ensures in
    let gens = c.as_slice-2.ensures.value ∙ c.in_ok-gens.ensures.generators in
    essential-basis field arr m is form gens c.len-forms.ensures.value c.dim-dim.ensures.value c.in_ok-whole.ensures.reduced c.in_ok-whole.ensures.degrees
    (c.in_ok-members.ensures ∙ ap (second_blocks c.len-forms.result) c.members.ensures.value)

pub returns-clause-carried : goal.returns-clause-carried
returns-clause-carried g c =
    let lawful = c.len-forms.ensures.lawful in
    let ring = g.K.Ring.ring in
    let field = g.met.K.Field.field_laws in
    let arr = c.args.arr.now in
    let m = c.args.m.now in
    let is : IsMultiArrangement ring arr m = record { rows = lawful.rows; dim_high = lawful.dim_high; one_each = c.requires.each; most = c.requires.most } in
    let form = subst (IsEchelonForm ring (record { cols = arr.dim; rows = arr.forms }) c.in_ok-form.form) (sym c.as_slice.ensures.value) c.in_ok-form.ensures in
    let gens = c.as_slice-2.ensures.value ∙ c.in_ok-gens.ensures.generators in
    let variables = c.in_ok-variables.ensures
    ∙ ap (λ ps. coordinates ring c.dim-dim.result ps c.in_ok-form.form.rows) (c.as_slice-3.ensures.value ∙ sym c.as_slice.ensures.value) in
    (essential-answer field arr m is form gens c.len-forms.ensures.value c.dim-dim.ensures.value c.in_ok-whole.ensures.reduced c.in_ok-whole.ensures.degrees
    (c.in_ok-members.ensures ∙ ap (second_blocks c.len-forms.result) c.members.ensures.value) variables c.new.ensures).0

pub returns-clause-derivations : goal.returns-clause-derivations
returns-clause-derivations g c =
    let lawful = c.len-forms.ensures.lawful in
    let ring = g.K.Ring.ring in
    let field = g.met.K.Field.field_laws in
    let arr = c.args.arr.now in
    let m = c.args.m.now in
    let is : IsMultiArrangement ring arr m = record { rows = lawful.rows; dim_high = lawful.dim_high; one_each = c.requires.each; most = c.requires.most } in
    let form = subst (IsEchelonForm ring (record { cols = arr.dim; rows = arr.forms }) c.in_ok-form.form) (sym c.as_slice.ensures.value) c.in_ok-form.ensures in
    let gens = c.as_slice-2.ensures.value ∙ c.in_ok-gens.ensures.generators in
    let variables = c.in_ok-variables.ensures
    ∙ ap (λ ps. coordinates ring c.dim-dim.result ps c.in_ok-form.form.rows) (c.as_slice-3.ensures.value ∙ sym c.as_slice.ensures.value) in
    (essential-answer field arr m is form gens c.len-forms.ensures.value c.dim-dim.ensures.value c.in_ok-whole.ensures.reduced c.in_ok-whole.ensures.degrees
    (c.in_ok-members.ensures ∙ ap (second_blocks c.len-forms.result) c.members.ensures.value) variables c.new.ensures).1

pub returns-clause-no_stop : goal.returns-clause-no_stop
returns-clause-no_stop g c =
    let lawful = c.len-forms.ensures.lawful in
    let ring = g.K.Ring.ring in
    let field = g.met.K.Field.field_laws in
    let arr = c.args.arr.now in
    let m = c.args.m.now in
    let is : IsMultiArrangement ring arr m = record { rows = lawful.rows; dim_high = lawful.dim_high; one_each = c.requires.each; most = c.requires.most } in
    let form = subst (IsEchelonForm ring (record { cols = arr.dim; rows = arr.forms }) c.in_ok-form.form) (sym c.as_slice.ensures.value) c.in_ok-form.ensures in
    let gens = c.as_slice-2.ensures.value ∙ c.in_ok-gens.ensures.generators in
    extended-never field arr m is form c.args.limits.now
    (of-essential field arr m is form gens c.len-forms.ensures.value c.dim-dim.ensures.value
    (λ n N. NeverStops (elimination_order n) N c.args.limits.now) c.in_ok-whole.ensures.no_stop)
