use Rattle.std.proofs.Common.{◌-◌, ap, ◌∙◌, arith}
use Rattle.std.proofs.lemmas.Bool.{true≢false}
use Rattle.hp_arr.proofs.NonzeroPlaces.{last-found, not_all_zero}
use Rattle.hp_arr.proofs.restriction.last_entry.Goals as goal

pub returns-in-Some-clause-place : goal.returns-in-Some-clause-place
returns-in-Some-clause-place g c =
    (last-found g.met.K.Ring.ring_laws c.args.row.now c.requires.values (c.loop-k.k - 1) c.index-row-k.result (omega arith) c.index-row-k.is (λ e. true≢false (c.in-Some.ensures.none.1 e)) (λ j low high. c.loop-k.invariant j (omega (arith, low)) high)).0

pub returns-in-Some-clause-inverse : goal.returns-in-Some-clause-inverse
returns-in-Some-clause-inverse g c =
    c.in-Some.ensures.some
    ∙ ap g.K.Field.inverse (last-found g.met.K.Ring.ring_laws c.args.row.now c.requires.values (c.loop-k.k - 1) c.index-row-k.result (omega arith) c.index-row-k.is (λ e. true≢false (c.in-Some.ensures.none.1 e)) (λ j low high. c.loop-k.invariant j (omega (arith, low)) high)).1

pub unreachable-requires : goal.unreachable-requires
unreachable-requires g c =
    not_all_zero g.met.K.Ring.ring_laws c.args.row.now c.requires.values c.requires.nonzero (λ j h. c.loop-k.invariant j (omega (arith, c.loop-k-test.false)) h)
