use Rattle.std.proofs.Common.{◌≡◌, sym, ap, ◌∙◌, arith}
use Rattle.std.proofs.lemmas.Bool.{true≢false}
use Rattle.std.proofs.lemmas.List.{get_or_read}
use Rattle.hp_algebra.specs.Rows.{entry}
use Rattle.hp_arr.specs.Operations.{first_place}
use Rattle.hp_arr.proofs.NonzeroPlaces.{first-found, first_place-is, not_all_zero}
use Rattle.hp_circuits.proofs.rows.first_entry.Goals as goal

pub returns-in-Some-clause-place : goal.returns-in-Some-clause-place
returns-in-Some-clause-place g c =
    let row = c.args.row.now in
    let ring = g.K.Ring.ring in
    let there : c.index-row-k.result ≡ entry ring row c.loop-k.k = get_or_read row c.loop-k.k c.index-row-k.result c.loop-k-test.true c.index-row-k.is ring.zero in
    sym (first_place-is g.met.K.Ring.ring_laws row c.requires.values c.loop-k.k
    (record { within = c.loop-k-test.true; nonzero = λ e. true≢false (c.in-Some.ensures.none.1 (there ∙ e)); zeros = c.loop-k.invariant }))

pub returns-in-Some-clause-inverse : goal.returns-in-Some-clause-inverse
returns-in-Some-clause-inverse g c =
    let row = c.args.row.now in
    let x = c.index-row-k.result in
    let first : x ≡ entry g.K.Ring.ring row (first_place g.K.Ring.ring row) =
    first-found g.met.K.Ring.ring_laws row c.requires.values c.loop-k.k x c.loop-k-test.true c.index-row-k.is (λ e. true≢false (c.in-Some.ensures.none.1 e)) c.loop-k.invariant in
    c.in-Some.ensures.some ∙ ap g.K.Field.inverse first

pub unreachable-requires : goal.unreachable-requires
unreachable-requires g c =
    not_all_zero g.met.K.Ring.ring_laws c.args.row.now c.requires.values c.requires.nonzero (λ j h. c.loop-k.invariant j (omega (arith, h, c.loop-k-test.false)))
