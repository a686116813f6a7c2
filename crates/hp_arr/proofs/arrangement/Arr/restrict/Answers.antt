use Rattle.std.proofs.Common.{◌≡◌, List, All, sym, ap, ◌∙◌, subst}
use Rattle.hp_arr.specs.Arrangement.{form}
use Rattle.hp_algebra.specs.Rows.{IsMultiple, is_zero_row}
use Rattle.hp_arr.specs.Operations.{deletion}
use Rattle.hp_arr.proofs.LawfulRestriction.{can_restrict}
use Rattle.hp_arr.proofs.CentralRestriction.{restriction-from, lawful-from}
use Rattle.hp_arr.proofs.arrangement.Arr.restrict.Goals as goal

pub restricted_forms-requires-clause-nonzero : goal.restricted_forms-requires-clause-nonzero
restricted_forms-requires-clause-nonzero g c =
    ap (is_zero_row g.K.Ring.ring) c.form.ensures.coefficients
    ∙ (can_restrict g.met.K.Field.field_laws g.K.FiniteField.numbers c.args.self.now c.dim-dim.ensures.lawful c.args.i c.requires.low c.requires.high).nonzero

pub restricted_forms-requires-clause-apart : goal.restricted_forms-requires-clause-apart
restricted_forms-requires-clause-apart g c =
    let ring = g.K.Ring.ring in
    let arr = c.args.self.now in
    let i = c.args.i in
    let Apart : List g.row.K.Denot → List (List g.row.K.Denot) → Type 0 = λ a others. All (λ b. ¬ (IsMultiple ring b a)) others in
    let others : c.deref.result.now ≡ (deletion arr i).forms = c.deref.ensures.value ∙ ap (λ a. a.forms) c.others.view_is ∙ ap (λ a. a.forms) c.in_ok-others.ensures.value in
    let apart : Apart (form arr i) (deletion arr i).forms = (can_restrict g.met.K.Field.field_laws g.K.FiniteField.numbers arr c.dim-dim.ensures.lawful i c.requires.low c.requires.high).apart in
    subst (λ a. Apart a c.deref.result.now) (sym c.form.ensures.coefficients) (subst (Apart (form arr i)) (sym others) apart)

pub of_lawful-requires : goal.of_lawful-requires
of_lawful-requires g c =
    let arr = c.args.self.now in
    let i = c.args.i in
    let others : c.deref.result.now ≡ (deletion arr i).forms = c.deref.ensures.value ∙ ap (λ a. a.forms) c.others.view_is ∙ ap (λ a. a.forms) c.in_ok-others.ensures.value in
    lawful-from g.met.K.Field.field_laws g.K.FiniteField.numbers arr c.dim-dim.ensures.lawful i c.requires.low c.requires.high _ _ _ _ c.dim-dim.ensures.value c.form.ensures.coefficients others c.in_ok-forms.ensures c.requires.dim

pub returns-clause-value : goal.returns-clause-value
returns-clause-value g c =
    let arr = c.args.self.now in
    let i = c.args.i in
    let others : c.deref.result.now ≡ (deletion arr i).forms = c.deref.ensures.value ∙ ap (λ a. a.forms) c.others.view_is ∙ ap (λ a. a.forms) c.in_ok-others.ensures.value in
    c.of_lawful.ensures.value ∙ restriction-from g.met.K.Field.field_laws g.K.FiniteField.numbers arr c.dim-dim.ensures.lawful i c.requires.low c.requires.high _ _ _ _ c.dim-dim.ensures.value c.form.ensures.coefficients others c.in_ok-forms.ensures
