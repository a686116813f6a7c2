use Rattle.std.proofs.Common.{◌≡◌, ◌∙◌, IfOk, length, ap, sym, subst, arith}
use Rattle.std.proofs.lemmas.List.FromFn.{length-map-range_with_len}
use Rattle.hp_algebra.specs.Rows.{unit_row}
use Rattle.hp_poly.specs.Polynomials.{linear_form}
use Rattle.hp_der.proofs.CoordinateSteps.{row-first, row-none}
use Rattle.hp_der.proofs.coordinates.form_for.Goals as goal

pub returns-then-pivots-k : goal.returns-then-pivots-k
returns-then-pivots-k g c =
    let ring = g.F.Ring.ring in
    let first = row-first c.args.pivots.now c.args.form.now.rows c.args.j c.loop-k.k (unit_row ring c.args.dim c.args.j) c.loop-k-test.true c.requires.one_each
    c.loop-k.invariant c.if-pivots-k.true in
    subst (λ a. IfOk c.linear.result (λ p. p ≡ linear_form ring a)) (c.row.ensures.value ∙ sym first) c.linear.ensures

pub linear-requires-2 : goal.linear-requires-2
linear-requires-2 g c =
    let ring = g.F.Ring.ring in
    let long : length (unit_row ring c.args.dim c.args.j) ≡ c.args.dim = length-map-range_with_len _ 1 c.args.dim in
    let same = ap length (c.as_slice.ensures.value ∙ c.in_ok-row.ensures) ∙ long in
    omega (arith, same, c.requires.few)

pub returns : goal.returns
returns g c =
    let ring = g.F.Ring.ring in
    let none = row-none c.args.pivots.now c.args.form.now.rows c.args.j (unit_row ring c.args.dim c.args.j)
    (λ i m. c.loop-k.invariant i (omega (arith, m, c.loop-k-test.false))) in
    subst (λ a. IfOk c.linear-2.result (λ p. p ≡ linear_form ring a)) (c.as_slice.ensures.value ∙ c.in_ok-row.ensures ∙ sym none) c.linear-2.ensures
