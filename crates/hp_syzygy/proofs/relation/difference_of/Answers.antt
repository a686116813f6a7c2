use Rattle.std.proofs.Common.{◌≡◌, ◌<◌, ◌∙◌, [], get_or, length, ap, sym, arith}
use Rattle.std.proofs.lemmas.List.{get_or_default}
use Rattle.hp_algebra.specs.Ring.{greatest_weight_of}
use Rattle.hp_mono.specs.Monomials.{degree}
use Rattle.hp_poly.specs.Polynomials.{poly_ring}
use Rattle.hp_syzygy.proofs.LevelDegrees.{member-weight, pair-most}
use Rattle.hp_syzygy.proofs.relation.difference_of.Goals as goal

pub times_term-requires : goal.times_term-requires
times_term-requires g c =
    let lv = c.args.level.now in
    let is = c.requires.level in
    let pair = c.requires.pair.1 in
    let i = c.args.later in
    let j = c.args.earlier in
    let x = c.index.result.now in
    let li : i < length lv.members = omega (arith, pair.later, is.led.same_length) in
    let lj : j < length lv.members = omega (arith, pair.earlier, is.led.same_length) in
    let member : x ≡ get_or lv.members i [] =
    c.index.ensures ∙ ap (λ w. get_or w.members i x) c.level.view_is ∙ get_or_default lv.members i x [] li in
    let w = member-weight is i li in
    let p = pair-most is i j li lj pair.same_comp in
    let e = ap (greatest_weight_of (poly_ring g.F.Ring.ring)) member in
    let d = ap degree c.requires.up in
    omega (arith, w, p, e, d)

pub times_term-requires-2 : goal.times_term-requires-2
times_term-requires-2 g c =
    let lv = c.args.level.now in
    let is = c.requires.level in
    let pair = c.requires.pair.1 in
    let i = c.args.later in
    let j = c.args.earlier in
    let x = c.index-2.result.now in
    let li : i < length lv.members = omega (arith, pair.later, is.led.same_length) in
    let lj : j < length lv.members = omega (arith, pair.earlier, is.led.same_length) in
    let member : x ≡ get_or lv.members j [] =
    c.index-2.ensures ∙ ap (λ w. get_or w.members j x) c.level.view_is ∙ get_or_default lv.members j x [] lj in
    let w = member-weight is j lj in
    let p = pair-most is j i lj li (sym pair.same_comp) in
    let e = ap (greatest_weight_of (poly_ring g.F.Ring.ring)) member in
    let d = ap degree c.requires.down in
    omega (arith, w, p, e, d)
