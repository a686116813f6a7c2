use Rattle.std.proofs.Common.{◌≡◌, ◌∙◌, length, refl, sym, arith}
use Rattle.std.proofs.lemmas.List.{same_lists}
use Rattle.hp_module.proofs.vector.ModVecModulePoly.m_equal.Goals as goal

pub returns-clause-value : goal.returns-clause-value
returns-clause-value g c =
    let a = c.entries-left.result.now in
    let b = c.entries-right.result.now in
    let wide : length a ≡ length b = omega (arith, c.if-left-right.false) in
    let same : a ≡ b = same_lists a b wide (λ j d h. c.loop-k.invariant j d (omega (arith, h, c.loop-k-test.false))) in
    (λ _. sym c.entries-left.ensures.value ∙ same ∙ c.entries-right.ensures.value, λ _. refl)
