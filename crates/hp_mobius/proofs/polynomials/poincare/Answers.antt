use Rattle.std.specs.Prelude.{ℕ, ◌*ℤ◌}
use Rattle.std.proofs.Common.{w64, ap, ◌∙◌, arith}
use Rattle.std.proofs.lemmas.Int.{to_z-of_z}
use Rattle.hp_algebra.specs.Integers.{sign}
use Rattle.hp_arr.specs.Moebius.{rank_sum}
use Rattle.hp_arr.proofs.ConePoints.{affine_setting}
use Rattle.hp_mobius.proofs.Coefficients.{next-coefficient, rank-high, poincare-is}
use Rattle.hp_mobius.proofs.polynomials.poincare.Goals as goal

pub overflow_add-k-end : goal.overflow_add-k-end
overflow_add-k-end g c =
    let S = affine_setting g.met.K.Field.field_laws g.met.K.FiniteField.numbering c.dim-dim.ensures.lawful in
    let high = rank-high S in
    let same = c.in_ok-rank.ensures in
    omega (arith, high, same)

pub loop-k-preserved : goal.loop-k-preserved
loop-k-preserved g c =
    let coefficient = λ (k : ℕ). rank_sum g.K.Ring.ring g.K.FiniteField.numbers c.args.aff.now k *ℤ sign k in
    let k = c.loop-k.k in
    let x = c.signed.result in
    next-coefficient coefficient k c.loop-k.coefficients.items c.push.new.self.items _ c.loop-k.invariant c.in_ok-push.ensures.items
    (to_z-of_z w64 x (record { sfits = c.signed.type_inv }) ∙ c.signed.ensures
    ∙ ap (λ z. z *ℤ sign k) (to_z-of_z w64 c.rank_total.result (record { sfits = c.rank_total.type_inv }) ∙ c.rank_total.ensures.value))

pub returns-clause-value : goal.returns-clause-value
returns-clause-value g c =
    let S = affine_setting g.met.K.Field.field_laws g.met.K.FiniteField.numbering c.dim-dim.ensures.lawful in
    poincare-is S c.loop-k.k c.in_ok-rank.rank c.loop-k.coefficients.items c.in_ok-rank.ensures
    c.loop-k.auto.k-end c.loop-k-test.false c.loop-k.invariant
