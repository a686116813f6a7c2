use Rattle.std.proofs.Common.{◌≡◌, ◌∙◌, length, ap, sym, arith}
use Rattle.hp_algebra.specs.Rows.{row_plus}
use Rattle.hp_poly.specs.Polynomials.{poly_ring}
use Rattle.hp_module.proofs.EntryLoops.{plus_entries}
use Rattle.hp_module.proofs.vector.ModVecModulePoly.m_add.Goals as goal

pub returns-clause-value : goal.returns-clause-value
returns-clause-value g c =
    let ring = poly_ring g.F.Ring.ring in
    let a = c.entries-left.ensures.value in
    let b = c.entries-right.ensures.value in
    let wide : length c.entries-left.result.now ≡ length c.entries-right.result.now =
    ap length a ∙ c.requires ∙ sym (ap length b) in
    let long : length c.loop-k.sums.items ≡ length c.entries-left.result.now =
    omega (arith, c.loop-k.invariant.long, c.loop-k-test.false, c.loop-k.auto.k-end) in
    c.new.ensures.value
    ∙ plus_entries ring c.entries-left.result.now c.entries-right.result.now c.loop-k.sums.items wide long (λ j d h. c.loop-k.invariant.each j d (omega (arith, h, c.loop-k-test.false)))
    ∙ (λ i. row_plus ring (a i) (b i))
