use Rattle.std.proofs.Common.{◌≡◌, ◌<◌, ◌∙◌, ℕ, length, replicate, sym, arith}
use Rattle.std.proofs.lemmas.List.{ext_get_or, get_or-replicate, length-replicate}
use Rattle.hp_syzygy.proofs.first.zeros.Goals as goal

pub returns : goal.returns
returns c =
    let zeros = c.loop.degrees.items in
    let n = c.args.count in
    let long : length zeros ≡ n = omega (arith, c.loop.invariant.long, c.loop-test.false) in
    ext_get_or 0 zeros (replicate n 0) (long ∙ sym (length-replicate {A = ℕ} n 0)) (λ j l.
    let h : j < n = omega (arith, l, long) in
    c.loop.invariant.each j (omega (arith, l, c.loop.invariant.long)) ∙ sym (get_or-replicate n j 0 0 h))
