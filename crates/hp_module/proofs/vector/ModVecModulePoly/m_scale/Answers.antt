use Rattle.std.proofs.Common.{◌≡◌, ◌∙◌, length, ap, arith}
use Rattle.hp_algebra.specs.Ring.{greatest_weight_of}
use Rattle.hp_algebra.specs.Rows.{row_scale}
use Rattle.hp_poly.specs.Polynomials.{poly_degree, poly_ring}
use Rattle.hp_module.proofs.EntryLoops.{scale_entries, weight_at}
use Rattle.hp_module.proofs.vector.ModVecModulePoly.m_scale.Goals as goal

pub mul-requires : goal.mul-requires
mul-requires g c =
    let ring = poly_ring g.F.Ring.ring in
    let entries = c.entries-entries.result.now in
    let x = c.index-entries-k.result in
    let at = ap (poly_degree g.F.Ring.ring) c.index-entries-k.is in
    let most = weight_at ring entries c.loop-k.k x (omega (arith, c.loop-k-test.true)) in
    let whole = ap (greatest_weight_of ring) c.entries-entries.ensures.value in
    omega (arith, at, most, whole, c.requires)

pub returns-clause-value : goal.returns-clause-value
returns-clause-value g c =
    let ring = poly_ring g.F.Ring.ring in
    let long : length c.loop-k.multiples.items ≡ length c.entries-entries.result.now =
    omega (arith, c.loop-k.invariant.long, c.loop-k-test.false, c.loop-k.auto.k-end) in
    c.new.ensures.value
    ∙ scale_entries ring c.args.by.now c.entries-entries.result.now c.loop-k.multiples.items long (λ j d h. c.loop-k.invariant.each j d (omega (arith, h, c.loop-k-test.false)))
    ∙ ap (row_scale ring c.args.by.now) c.entries-entries.ensures.value
