use Rattle.std.proofs.Common.{◌≡◌, ap, ◌∙◌, ◌++◌, ◌+◌, ◌≤◌, length, arith}
use Rattle.hp_mono.specs.Monomials.{vars}
use Rattle.hp_render.specs.VectorText.{power_text}
use Rattle.hp_render.proofs.NextPower.{next_power, all_powers}
use Rattle.hp_render.proofs.vector_text.push_powers.Goals as goal

pub loop-i-preserved : goal.loop-i-preserved
loop-i-preserved c =
    let low : 1 ≤ c.loop-i.i = omega (arith, c.loop-i.auto.i) in
    let high : c.loop-i.i ≤ length c.args.mono.now = omega (arith, c.loop-i-test.true, c.exp.ensures.of.exponents) in
    c.in_ok-push_power.ensures
    ∙ ap (λ t. t ++ power_text c.loop-i.i c.exp.result) c.loop-i.invariant
    ∙ next_power c.loop-i.i c.args.mono.now c.exp.result c.args.text.now.items low high c.exp.ensures.value

pub returns : goal.returns
returns c =
    let end : c.loop-i.i ≡ vars + 1 = omega (arith, c.loop-i.auto.i-end, c.loop-i-test.false) in
    c.loop-i.invariant ∙ all_powers c.loop-i.i c.args.mono.now c.args.text.now.items c.degree-degree.ensures.of.exponents end
