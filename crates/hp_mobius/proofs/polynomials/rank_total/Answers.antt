use Rattle.std.specs.Prelude.{◌+◌}
use Rattle.std.proofs.Common.{w64, sym, ap, ◌∙◌, subst}
use Rattle.std.proofs.lemmas.Int.{to_z-of_z}
use Rattle.hp_algebra.specs.Integers.{sum_over}
use Rattle.hp_arr.specs.Flats.{flats}
use Rattle.hp_arr.proofs.ConePoints.{affine_setting}
use Rattle.hp_mobius.specs.Partial.{IsSmall}
use Rattle.hp_mobius.proofs.CoverShares.{take-over}
use Rattle.hp_mobius.proofs.CoverSums.{of_rank, rank-total}
use Rattle.hp_mobius.proofs.Coefficients.{small-total, total-next, values-length}
use Rattle.hp_mobius.proofs.polynomials.rank_total.Goals as goal

pub sum_of-total-requires : goal.sum_of-total-requires
sum_of-total-requires g c =
    let S = affine_setting g.met.K.Field.field_laws g.met.K.FiniteField.numbering c.dim-dim.ensures.lawful in
    let valued = to_z-of_z w64 c.value_at.result (record { sfits = c.value_at.type_inv }) ∙ c.value_at.ensures in
    let next = total-next S c.args.rank c.loop-k.k c.args.values.now c.index-values-k.result c.requires c.loop-k-test.true c.index-values-k.is c.loop-k.invariant valued in
    subst IsSmall (sym next) (small-total S c.args.rank (c.loop-k.k + 1))

pub loop-k-preserved : goal.loop-k-preserved
loop-k-preserved g c =
    let S = affine_setting g.met.K.Field.field_laws g.met.K.FiniteField.numbering c.dim-dim.ensures.lawful in
    let valued = to_z-of_z w64 c.value_at.result (record { sfits = c.value_at.type_inv }) ∙ c.value_at.ensures in
    let next = total-next S c.args.rank c.loop-k.k c.args.values.now c.index-values-k.result c.requires c.loop-k-test.true c.index-values-k.is c.loop-k.invariant valued in
    to_z-of_z w64 c.sum_of-total.result (record { sfits = c.sum_of-total.type_inv }) ∙ c.sum_of-total.ensures ∙ next

pub returns-clause-value : goal.returns-clause-value
returns-clause-value g c =
    let S = affine_setting g.met.K.Field.field_laws g.met.K.FiniteField.numbering c.dim-dim.ensures.lawful in
    c.loop-k.invariant
    ∙ ap (sum_over (of_rank S c.args.rank)) (take-over (flats g.K.Ring.ring g.K.FiniteField.numbers c.args.aff.now) c.loop-k.k (values-length S c.loop-k.k c.args.values.now c.requires c.loop-k-test.false))
    ∙ rank-total S c.args.rank

pub returns-clause-small : goal.returns-clause-small
returns-clause-small g c =
    let S = affine_setting g.met.K.Field.field_laws g.met.K.FiniteField.numbering c.dim-dim.ensures.lawful in
    subst IsSmall (sym c.loop-k.invariant) (small-total S c.args.rank c.loop-k.k)
