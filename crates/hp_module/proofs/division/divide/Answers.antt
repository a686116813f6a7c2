use Rattle.std.proofs.Common.{◌≡◌, ◌∷◌, ◌++◌, ◌∙◌, ℕ, [], length, take, ap, sym, subst}
use Rattle.std.proofs.lemmas.List.{take_all, take_more}
use Rattle.hp_module.specs.Vectors.{IsVector, zero_vector}
use Rattle.hp_module.specs.Leads.{AreLed}
use Rattle.hp_module.specs.Divisions.{IsDivided, IsDivision}
use Rattle.hp_module.specs.FallingTerms.{AreDivisors, free_module, with_leads}
use Rattle.hp_module.proofs.DivisorLists.{divisors-none}
use Rattle.hp_module.proofs.HeldDivisions.{divided-by, divided-leads, divisors-led}
use Rattle.hp_module.proofs.division.divide.Goals as goal

pub loop-k-init : goal.loop-k-init
loop-k-init g c =
    let ring = g.F.Ring.ring in
    let cmp = g.O.TermOrder.order c.args.order.now in
    let width = g.O.TermOrder.components c.args.order.now in
    let order = g.met.O.TermOrder.lawful c.args.order.now c.width-components.ensures.of in
    let field = g.met.F.Field.field_laws in
    let shifts = c.args.grading.now.shifts in
    let wide : c.width-width.result ≡ width = c.width-width.ensures.value ∙ sym c.requires.width in
    record {
      divisors = subst (AreDivisors ring cmp width) (sym c.in_ok-divisors.ensures) (divisors-none ring cmp width wide);
      members = ap (λ d. (with_leads ring d).members) c.in_ok-divisors.ensures;
    }

pub push-requires-clause-width : goal.push-requires-clause-width
push-requires-clause-width g c =
    let basis = c.args.basis.now in
    let k = c.loop-k.k in
    let x = c.index-basis-k.result in
    let wx : length x ≡ length c.args.v.now = ap length c.index-basis-k.is ∙ c.requires.widths k x c.loop-k-test.true in
    c.requires.width ∙ sym wx

pub push-requires-clause-nonzero : goal.push-requires-clause-nonzero
push-requires-clause-nonzero g c =
    let basis = c.args.basis.now in
    let k = c.loop-k.k in
    let x = c.index-basis-k.result in
    let wx : length x ≡ length c.args.v.now = ap length c.index-basis-k.is ∙ c.requires.widths k x c.loop-k-test.true in
    let ring = g.F.Ring.ring in
    λ z. c.requires.nonzero k x c.loop-k-test.true (sym c.index-basis-k.is ∙ z ∙ ap (zero_vector ring) wx)

pub loop-k-preserved : goal.loop-k-preserved
loop-k-preserved g c =
    let basis = c.args.basis.now in
    let k = c.loop-k.k in
    let x = c.index-basis-k.result in
    let wx : length x ≡ length c.args.v.now = ap length c.index-basis-k.is ∙ c.requires.widths k x c.loop-k-test.true in
    record {
      divisors = c.in_ok-push.ensures.divisors;
      members = c.in_ok-push.ensures.members ∙ ap (λ w. w ++ x ∷ []) c.loop-k.invariant.members
          ∙ ap (λ y. take k basis ++ y ∷ []) c.index-basis-k.is ∙ sym (take_more basis k x c.loop-k-test.true);
    }

pub divide-requires-clause-led : goal.divide-requires-clause-led
divide-requires-clause-led g c =
    let ring = g.F.Ring.ring in
    let cmp = g.O.TermOrder.order c.args.order.now in
    let width = g.O.TermOrder.components c.args.order.now in
    let order = g.met.O.TermOrder.lawful c.args.order.now c.width-components.ensures.of in
    let field = g.met.F.Field.field_laws in
    let shifts = c.args.grading.now.shifts in
    let wide : c.width-width.result ≡ width = c.width-width.ensures.value ∙ sym c.requires.width in
    let basis = c.args.basis.now in
    let v = c.args.v.now in
    let all = c.loop-k.invariant.members ∙ take_all c.loop-k.k basis c.loop-k-test.false in
    let led = divisors-led field cmp width order shifts c.loop-k.invariant.divisors all c.requires.members in
    led

pub returns-clause-division : goal.returns-clause-division
returns-clause-division g c =
    let ring = g.F.Ring.ring in
    let cmp = g.O.TermOrder.order c.args.order.now in
    let width = g.O.TermOrder.components c.args.order.now in
    let order = g.met.O.TermOrder.lawful c.args.order.now c.width-components.ensures.of in
    let field = g.met.F.Field.field_laws in
    let shifts = c.args.grading.now.shifts in
    let wide : c.width-width.result ≡ width = c.width-width.ensures.value ∙ sym c.requires.width in
    let basis = c.args.basis.now in
    let v = c.args.v.now in
    let all = c.loop-k.invariant.members ∙ take_all c.loop-k.k basis c.loop-k-test.false in
    let led = divisors-led field cmp width order shifts c.loop-k.invariant.divisors all c.requires.members in
    let FM = λ (n : ℕ). free_module ring g.F.Field.inverse n shifts cmp in
    let qs = c.in_ok-answer.answer.0.items in
    let r = c.in_ok-answer.answer.1 in
    let hv = subst (λ n. IsVector ring n v) wide c.width-width.ensures.of in
    subst (λ n. IsDivision (FM n) v basis qs r) c.requires.width
    (divided-by field cmp width order shifts c.loop-k.divisors hv led all c.in_ok-answer.ensures c.requires.homogeneous.0 c.requires.homogeneous.2)

pub returns-clause-symbols : goal.returns-clause-symbols
returns-clause-symbols g c =
    let ring = g.F.Ring.ring in
    let cmp = g.O.TermOrder.order c.args.order.now in
    let width = g.O.TermOrder.components c.args.order.now in
    let order = g.met.O.TermOrder.lawful c.args.order.now c.width-components.ensures.of in
    let field = g.met.F.Field.field_laws in
    let shifts = c.args.grading.now.shifts in
    let wide : c.width-width.result ≡ width = c.width-width.ensures.value ∙ sym c.requires.width in
    let basis = c.args.basis.now in
    let v = c.args.v.now in
    let all = c.loop-k.invariant.members ∙ take_all c.loop-k.k basis c.loop-k-test.false in
    let led = divisors-led field cmp width order shifts c.loop-k.invariant.divisors all c.requires.members in
    let FM = λ (n : ℕ). free_module ring g.F.Field.inverse n shifts cmp in
    let qs = c.in_ok-answer.answer.0.items in
    let r = c.in_ok-answer.answer.1 in
    let hv = subst (λ n. IsVector ring n v) wide c.width-width.ensures.of in
    λ leads a.
    subst (λ n. IsDivided (FM n) v (record { members = basis; leads = leads }) qs r) c.requires.width
    (divided-leads field cmp width order shifts c.loop-k.divisors led all c.in_ok-answer.ensures leads
    (subst (λ n. AreLed (FM n) (record { members = basis; leads = leads })) (sym c.requires.width) a))
