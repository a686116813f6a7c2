use Rattle.std.proofs.Common.{◌≡◌, [], length, sym, arith}
use Rattle.hp_module.proofs.HeldParts.{vector_of-entries}
use Rattle.hp_module.proofs.parts.polynomials.Goals as goal

pub returns : goal.returns
returns g c =
    let entries = c.loop-k.entries.items in
    let parts = c.args.parts.now in
    let long : length entries ≡ length parts = omega (arith, c.loop-k.invariant.long, c.loop-k-test.false, c.loop-k.auto.k-end) in
    sym (vector_of-entries g.F.Ring.ring parts entries long (λ j h. sym (c.loop-k.invariant.each j [] (omega (arith, h, c.loop-k-test.false)))))
