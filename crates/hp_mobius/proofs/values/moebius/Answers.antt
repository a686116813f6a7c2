use Rattle.std.specs.Prelude.{◌<◌, length}
use Rattle.std.proofs.Common.{sym, subst, arith}
use Rattle.hp_arr.proofs.ConePoints.{affine_setting}
use Rattle.hp_mobius.specs.Partial.{IsAddedUp}
use Rattle.hp_arr.proofs.MobiusValues.{mobius-meets}
use Rattle.hp_mobius.proofs.CoverShares.{noted-none}
use Rattle.hp_mobius.proofs.CoverSums.{added-start}
use Rattle.hp_mobius.proofs.FlatTurns.{turn-of, turn-once, turn-sums, turn-value, turn-small, turn-next}
use Rattle.hp_mobius.proofs.values.moebius.Goals as goal

pub returns-in_err-covered-clause-equations : goal.returns-in_err-covered-clause-equations
returns-in_err-covered-clause-equations g c = mobius-meets (affine_setting g.met.K.Field.field_laws g.met.K.FiniteField.numbering c.flats_with_covers.ensures.lawful)

pub returns-in_err-share_value-clause-equations : goal.returns-in_err-share_value-clause-equations
returns-in_err-share_value-clause-equations g c = mobius-meets (affine_setting g.met.K.Field.field_laws g.met.K.FiniteField.numbering c.flats_with_covers.ensures.lawful)

pub returns-in_err-push-clause-equations : goal.returns-in_err-push-clause-equations
returns-in_err-push-clause-equations g c = mobius-meets (affine_setting g.met.K.Field.field_laws g.met.K.FiniteField.numbering c.flats_with_covers.ensures.lawful)

pub returns-clause-equations : goal.returns-clause-equations
returns-clause-equations g c = mobius-meets (affine_setting g.met.K.Field.field_laws g.met.K.FiniteField.numbering c.flats_with_covers.ensures.lawful)

pub loop-k-init : goal.loop-k-init
loop-k-init g c =
    subst (λ v. IsAddedUp g.K.Ring.ring g.K.FiniteField.numbers c.args.aff.now 0 c.new-sums.result v) (sym c.new-values.ensures.items)
    (added-start (affine_setting g.met.K.Field.field_laws g.met.K.FiniteField.numbering c.flats_with_covers.ensures.lawful) c.new-sums.result (noted-none c.new-sums.result c.new-sums.ensures.empty))

pub share_value-requires-clause-once : goal.share_value-requires-clause-once
share_value-requires-clause-once g c =
    let S = affine_setting g.met.K.Field.field_laws g.met.K.FiniteField.numbering c.flats_with_covers.ensures.lawful in
    let inside : c.loop-k.k < length c.in_ok-covered.covered.items = omega (arith, c.loop-k-test.true, c.len-k-end.ensures) in
    let turn = turn-of S c.in_ok-covered.covered.items c.in_ok-covered.ensures.flats c.in_ok-covered.ensures.covers inside c.index-this.ensures c.loop-k.invariant in
    turn-once S turn _ c.as_slice.ensures

pub share_value-requires-clause-sums : goal.share_value-requires-clause-sums
share_value-requires-clause-sums g c =
    let S = affine_setting g.met.K.Field.field_laws g.met.K.FiniteField.numbering c.flats_with_covers.ensures.lawful in
    let inside : c.loop-k.k < length c.in_ok-covered.covered.items = omega (arith, c.loop-k-test.true, c.len-k-end.ensures) in
    let turn = turn-of S c.in_ok-covered.covered.items c.in_ok-covered.ensures.flats c.in_ok-covered.ensures.covers inside c.index-this.ensures c.loop-k.invariant in
    turn-sums S turn _ c.as_slice.ensures

pub share_value-requires-clause-value : goal.share_value-requires-clause-value
share_value-requires-clause-value g c =
    let S = affine_setting g.met.K.Field.field_laws g.met.K.FiniteField.numbering c.flats_with_covers.ensures.lawful in
    let inside : c.loop-k.k < length c.in_ok-covered.covered.items = omega (arith, c.loop-k-test.true, c.len-k-end.ensures) in
    let turn = turn-of S c.in_ok-covered.covered.items c.in_ok-covered.ensures.flats c.in_ok-covered.ensures.covers inside c.index-this.ensures c.loop-k.invariant in
    turn-small S turn _ (turn-value S turn c.value_from-value.result (record { sfits = c.value_from-value.type_inv }) c.value_from-value.ensures)

pub loop-k-preserved : goal.loop-k-preserved
loop-k-preserved g c =
    let S = affine_setting g.met.K.Field.field_laws g.met.K.FiniteField.numbering c.flats_with_covers.ensures.lawful in
    let inside : c.loop-k.k < length c.in_ok-covered.covered.items = omega (arith, c.loop-k-test.true, c.len-k-end.ensures) in
    let turn = turn-of S c.in_ok-covered.covered.items c.in_ok-covered.ensures.flats c.in_ok-covered.ensures.covers inside c.index-this.ensures c.loop-k.invariant in
    turn-next S turn _ _ c.share_value.new.sums c.push.new.self.items (turn-value S turn c.value_from-value.result (record { sfits = c.value_from-value.type_inv }) c.value_from-value.ensures)
    c.as_slice.ensures c.in_ok-share_value.ensures c.in_ok-push.ensures.items
