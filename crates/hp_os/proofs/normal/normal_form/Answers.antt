use Rattle.std.proofs.Common.{◌<◌, ◌++◌, ◌-◌, All, sym, ap, subst, ◌∙◌, arith}
use Rattle.hp_arr.proofs.Setting.{setting}
use Rattle.hp_circuits.specs.BrokenParts.{IsBrokenBy}
use Rattle.hp_circuits.proofs.NbcSteps.{some-has, none-is}
use Rattle.hp_exterior.specs.Exterior.{ext_of}
use Rattle.hp_os.specs.Straightening.{lower_terms, member_sum, upper_terms}
use Rattle.hp_os.proofs.NbcIndependence.{normal_unique}
use Rattle.hp_os.proofs.NormalSteps.{broken-low, broken-high, loop-start, loop-enter, loop-leave, loop-end, turn-within, turn-done, turn-drop, turn-replace}
use Rattle.hp_os.proofs.normal.normal_form.Goals as goal

pub loop-back-init : goal.loop-back-init
loop-back-init g c = λ lawful. (
    let S = setting g.met.K.Field.field_laws g.met.K.FiniteField.numbering lawful in
    loop-start S c.args.x.now c.in_ok-todo.todo.items c.new-done.result.items c.bound_of-bound.result c.requires
    (c.in_ok-todo.ensures.items ∙ c.terms.ensures.value) c.new-done.ensures.items
    (subst (All (λ t. member_sum t.0 < c.bound_of-bound.result)) c.as_slice.ensures.value c.bound_of-bound.ensures))

pub loop-t-init : goal.loop-t-init
loop-t-init g c = λ lawful. (
    let S = setting g.met.K.Field.field_laws g.met.K.FiniteField.numbering lawful in
    let level = c.bound_of-bound.result - 1 - c.loop-back.back in
    loop-enter S c.args.x.now c.bound_of-bound.result c.loop-back.back c.loop-back-test.true c.loop-back.todo.items c.terms-rest.result.now
    c.split.new.lower.items c.loop-back.done.items (c.loop-back.invariant lawful)
    (c.terms-rest.ensures.value ∙ c.in_ok-here.ensures
    ∙ ap (ext_of g.K.Ring.ring) (c.in_ok-split.ensures.upper ∙ (λ i. c.new-upper.ensures.items i ++ upper_terms level (c.as_slice-in-loop-back.ensures.value i))))
    (c.in_ok-split.ensures.lower ∙ (λ i. c.new-lower.ensures.items i ++ lower_terms level (c.as_slice-in-loop-back.ensures.value i))))

pub broken_part-requires : goal.broken_part-requires
broken_part-requires g c =
    let lawful = c.len-lawful.ensures.lawful in
    let S = setting g.met.K.Field.field_laws g.met.K.FiniteField.numbering lawful in
    turn-within S c.args.x.now (c.bound_of-bound.result - 1 - c.loop-back.back) c.in-Some.t.now c.loop-t.rest.now c.in-Some.more.now c.loop-t.lower.items c.loop-t.done.items
    (c.loop-t.invariant lawful) c.in-Some.ensures.cases.0

pub append_straight-requires-clause-low : goal.append_straight-requires-clause-low
append_straight-requires-clause-low g c =
    let lawful = c.len-lawful.ensures.lawful in
    let S = setting g.met.K.Field.field_laws g.met.K.FiniteField.numbering lawful in
    broken-low S c.in-Some.t.now.0 c.in-Some-2.broken.0 c.in-Some-2.broken.1
    (turn-within S c.args.x.now (c.bound_of-bound.result - 1 - c.loop-back.back) c.in-Some.t.now c.loop-t.rest.now c.in-Some.more.now c.loop-t.lower.items c.loop-t.done.items (c.loop-t.invariant lawful) c.in-Some.ensures.cases.0)
    (some-has c.in_ok-broken_part.field-0 c.in-Some-2.broken
    (λ w. IsBrokenBy g.K.Ring.ring g.K.FiniteField.numbers c.args.arr.now c.in-Some.t.now.0 w.0 w.1) c.in-Some-2.is c.in_ok-broken_part.ensures.some)

pub append_straight-requires-clause-high : goal.append_straight-requires-clause-high
append_straight-requires-clause-high g c =
    let lawful = c.len-lawful.ensures.lawful in
    let S = setting g.met.K.Field.field_laws g.met.K.FiniteField.numbering lawful in
    broken-high S c.in-Some.t.now.0 c.in-Some-2.broken.0 c.in-Some-2.broken.1
    (turn-within S c.args.x.now (c.bound_of-bound.result - 1 - c.loop-back.back) c.in-Some.t.now c.loop-t.rest.now c.in-Some.more.now c.loop-t.lower.items c.loop-t.done.items (c.loop-t.invariant lawful) c.in-Some.ensures.cases.0)
    (some-has c.in_ok-broken_part.field-0 c.in-Some-2.broken
    (λ w. IsBrokenBy g.K.Ring.ring g.K.FiniteField.numbers c.args.arr.now c.in-Some.t.now.0 w.0 w.1) c.in-Some-2.is c.in_ok-broken_part.ensures.some)

pub loop-t-preserved-in_ok-push-in-None : goal.loop-t-preserved-in_ok-push-in-None
loop-t-preserved-in_ok-push-in-None g c = λ lawful. (
    let S = setting g.met.K.Field.field_laws g.met.K.FiniteField.numbering lawful in
    turn-done S c.args.x.now (c.bound_of-bound.result - 1 - c.loop-back.back) c.in-Some.t.now c.loop-t.rest.now c.in-Some.more.now c.loop-t.lower.items c.loop-t.done.items
    (c.loop-t.invariant lawful) c.in-Some.ensures.cases.0 c.push.new.self.items
    (c.in_ok-broken_part.ensures.none (none-is c.in_ok-broken_part.field-0 c.in-None.is)) c.in_ok-push-in-None.ensures.items)

pub loop-t-preserved-in_ok-append_straight-in-Some-2 : goal.loop-t-preserved-in_ok-append_straight-in-Some-2
loop-t-preserved-in_ok-append_straight-in-Some-2 g c = λ lawful. (
    let S = setting g.met.K.Field.field_laws g.met.K.FiniteField.numbering lawful in
    turn-replace S c.args.x.now (c.bound_of-bound.result - 1 - c.loop-back.back) c.in-Some.t.now c.loop-t.rest.now c.in-Some.more.now c.loop-t.lower.items c.loop-t.done.items
    (c.loop-t.invariant lawful) c.in-Some.ensures.cases.0 c.in-Some-2.broken.0 c.in-Some-2.broken.1
    (some-has c.in_ok-broken_part.field-0 c.in-Some-2.broken
    (λ w. IsBrokenBy g.K.Ring.ring g.K.FiniteField.numbers c.args.arr.now c.in-Some.t.now.0 w.0 w.1) c.in-Some-2.is c.in_ok-broken_part.ensures.some)
    c.append_straight.new.out.items (sym c.contains.ensures.value ∙ c.if-not-contains.true)
    c.in_ok-append_straight-in-Some-2.ensures)

pub loop-t-preserved : goal.loop-t-preserved
loop-t-preserved g c = λ lawful. (
    let S = setting g.met.K.Field.field_laws g.met.K.FiniteField.numbering lawful in
    turn-drop S c.args.x.now (c.bound_of-bound.result - 1 - c.loop-back.back) c.in-Some.t.now c.loop-t.rest.now c.in-Some.more.now c.loop-t.lower.items c.loop-t.done.items
    (c.loop-t.invariant lawful) c.in-Some.ensures.cases.0 c.in-Some-2.broken.0 c.in-Some-2.broken.1
    (some-has c.in_ok-broken_part.field-0 c.in-Some-2.broken
    (λ w. IsBrokenBy g.K.Ring.ring g.K.FiniteField.numbers c.args.arr.now c.in-Some.t.now.0 w.0 w.1) c.in-Some-2.is c.in_ok-broken_part.ensures.some)
    (sym c.contains.ensures.value ∙ c.if-not-contains.false))

pub loop-back-preserved : goal.loop-back-preserved
loop-back-preserved g c = λ lawful. (
    let S = setting g.met.K.Field.field_laws g.met.K.FiniteField.numbering lawful in
    loop-leave S c.args.x.now c.bound_of-bound.result c.loop-back.back c.loop-back-test.true c.loop-t.rest.now c.loop-t.lower.items c.loop-t.done.items
    (c.loop-t.invariant lawful) c.in_default.ensures.cases)

pub returns-clause-value : goal.returns-clause-value
returns-clause-value g c =
    let lawful = c.len-lawful.ensures.lawful in
    let S = setting g.met.K.Field.field_laws g.met.K.FiniteField.numbering lawful in
    loop-end S c.args.x.now c.loop-back.todo.items c.loop-back.done.items c.in_ok-form.form c.bound_of-bound.result c.loop-back.back
    (omega (arith, c.loop-back-test.false)) c.requires (c.loop-back.invariant lawful) c.in_ok-form.ensures

pub returns-clause-only : goal.returns-clause-only
returns-clause-only g c = λ s p. (
    let lawful = c.len-lawful.ensures.lawful in
    let S = setting g.met.K.Field.field_laws g.met.K.FiniteField.numbering lawful in
    normal_unique S c.args.x.now s c.in_ok-form.form c.requires.0.is_sum p
    (loop-end S c.args.x.now c.loop-back.todo.items c.loop-back.done.items c.in_ok-form.form c.bound_of-bound.result c.loop-back.back
    (omega (arith, c.loop-back-test.false)) c.requires (c.loop-back.invariant lawful) c.in_ok-form.ensures))
