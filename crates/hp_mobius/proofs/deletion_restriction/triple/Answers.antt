use Rattle.std.specs.Prelude.{◌≤◌, length}
use Rattle.std.proofs.Common.{sym, ◌∙◌, subst}
use Rattle.hp_arr.specs.Flats.{flats}
use Rattle.hp_arr.proofs.ConePoints.{affine_setting}
use Rattle.hp_mobius.proofs.TripleLaw.{adds-of}
use Rattle.hp_mobius.proofs.FlatCounts.{deletion-flats, restriction-flats}
use Rattle.hp_mobius.proofs.deletion_restriction.triple.Goals as goal

pub pi_of_smaller-requires : goal.pi_of_smaller-requires
pi_of_smaller-requires g c =
    let S = affine_setting g.met.K.Field.field_laws g.met.K.FiniteField.numbering c.dim-dim.ensures.lawful in
    subst (λ a. length (flats g.K.Ring.ring g.K.FiniteField.numbers a) ≤ length (flats g.K.Ring.ring g.K.FiniteField.numbers c.args.aff.now)) (sym c.in_ok-deletion.ensures.value)
    (deletion-flats S c.args.i c.requires.low c.requires.high)

pub pi_of_smaller-requires-2 : goal.pi_of_smaller-requires-2
pi_of_smaller-requires-2 g c =
    let S = affine_setting g.met.K.Field.field_laws g.met.K.FiniteField.numbering c.dim-dim.ensures.lawful in
    subst (λ a. length (flats g.K.Ring.ring g.K.FiniteField.numbers a) ≤ length (flats g.K.Ring.ring g.K.FiniteField.numbers c.args.aff.now)) (sym c.in_ok-restriction.ensures.value)
    (restriction-flats S c.args.i c.requires.low c.requires.high c.requires.dim)

pub returns-clause-law : goal.returns-clause-law
returns-clause-law g c =
    let S = affine_setting g.met.K.Field.field_laws g.met.K.FiniteField.numbering c.dim-dim.ensures.lawful in
    adds-of S c.args.i c.requires.low c.requires.high c.requires.dim c.of-whole.result c.in_ok-deleted.deleted c.in_ok-restricted.restricted _ _
    (c.of-whole.ensures ∙ c.in_ok-poincare.ensures.value) c.in_ok-deleted.ensures.value c.in_ok-restricted.ensures.value c.in_ok-deletion.ensures.value c.in_ok-restriction.ensures.value
