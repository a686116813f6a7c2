use Rattle.std.proofs.Common.{length, refl, arith}
use Rattle.hp_algebra.proofs.Rows.{zero_row-ext}
use Rattle.hp_linear.proofs.row.leading.Goals as goal

pub returns-clause-none : goal.returns-clause-none
returns-clause-none g c =
    let ring = g.F.Ring.ring in
    let row = c.args.row.now in
    (λ _. zero_row-ext g.met.F.Ring.ring_laws (length row) row refl (λ j h. c.loop-j.invariant j ring.zero (omega (arith, h, c.loop-j-test.false))), λ _. refl)
