use Rattle.std.proofs.Common.{◌≡◌, ◌-◌, ◌+◌, sym, ap, ◌∙◌, arith}
use Rattle.hp_syzygy.proofs.FirstExponents.{first-all, first-not}
use Rattle.hp_syzygy.proofs.LeadExponents.{exponent_of}
use Rattle.hp_syzygy.proofs.relation.is_in_first.Goals as goal

pub returns-then-exp-ne0 : goal.returns-then-exp-ne0
returns-then-exp-ne0 c =
    let m = c.args.m.now in
    let i = c.loop-i.i in
    let back : (i + 1) - 1 ≡ i = omega arith in
    let n = c.degree-degree.ensures.of.exponents in
    sym (first-not c.args.l m i (omega (arith, c.loop-i.auto.i)) (omega (arith, n, c.loop-i-test.true))
    (λ z. c.if-exp-ne0.true (c.exp.ensures.value ∙ ap (exponent_of m) back ∙ z)))

pub returns : goal.returns
returns c =
    let n = c.degree-degree.ensures.of.exponents in
    sym (first-all c.args.l c.args.m.now (λ j a b. c.loop-i.invariant j a (omega (arith, n, b, c.loop-i-test.false))))
