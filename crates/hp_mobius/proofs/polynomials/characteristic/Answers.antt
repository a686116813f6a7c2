use Rattle.std.specs.Prelude.{ℕ, ◌-◌}
use Rattle.std.proofs.Common.{w64, ap, ◌∙◌}
use Rattle.std.proofs.lemmas.Int.{to_z-of_z}
use Rattle.hp_arr.specs.Moebius.{rank_sum}
use Rattle.hp_arr.proofs.ConePoints.{affine_setting}
use Rattle.hp_mobius.proofs.Coefficients.{next-coefficient, characteristic-is}
use Rattle.hp_mobius.proofs.polynomials.characteristic.Goals as goal

pub loop-k-preserved : goal.loop-k-preserved
loop-k-preserved g c =
    let coefficient = λ (k : ℕ). rank_sum g.K.Ring.ring g.K.FiniteField.numbers c.args.aff.now (c.args.aff.now.dim - k) in
    let k = c.loop-k.k in
    let x = c.rank_total.result in
    next-coefficient coefficient k c.loop-k.coefficients.items c.push.new.self.items _ c.loop-k.invariant c.in_ok-push.ensures.items
    (to_z-of_z w64 x (record { sfits = c.rank_total.type_inv }) ∙ c.rank_total.ensures.value
    ∙ ap (λ d. rank_sum g.K.Ring.ring g.K.FiniteField.numbers c.args.aff.now (d - k)) c.dim-dim.ensures.value)

pub returns-clause-value : goal.returns-clause-value
returns-clause-value g c =
    let S = affine_setting g.met.K.Field.field_laws g.met.K.FiniteField.numbering c.dim-dim.ensures.lawful in
    characteristic-is S c.loop-k.k c.dim-dim.result c.loop-k.coefficients.items c.dim-dim.ensures.value c.loop-k.auto.k-end c.loop-k-test.false c.loop-k.invariant
