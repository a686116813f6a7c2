use Rattle.std.proofs.Common.{◌≡◌, ◌∙◌, ℕ, [], List, ◌+◌, ◌-◌, ◌++◌, map, ap, sym, arith}
use Rattle.std.proofs.lemmas.List.{append-nil}
use Rattle.std.proofs.lemmas.Simd.{map-map}
use Rattle.hp_algebra.specs.Rows.{unit_row}
use Rattle.hp_lists.specs.Lists.{one_to, range_with_len}
use Rattle.hp_mono.specs.Monomials.{variable}
use Rattle.hp_poly.specs.Polynomials.{Poly, linear_form, term_poly}
use Rattle.hp_graded.specs.EssentialRows.{essential_rows, row_at}
use Rattle.hp_der.proofs.RangeSteps.{next-value, next-value_from}
use Rattle.hp_der.proofs.coordinates.essential_variables.Goals as goal

pub loop-j-preserved : goal.loop-j-preserved
loop-j-preserved g c =
    let ring = g.F.Ring.ring in
    next-value (λ j. linear_form ring (row_at c.args.pivots.now c.args.form.now.rows j (unit_row ring c.args.dim j))) [] c.loop-j.xs.items c.push.new.self.items _ c.loop-j.j
    c.loop-j.invariant c.in_ok-form_for.ensures c.in_ok-push.ensures.items

pub loop-j-2-init : goal.loop-j-2-init
loop-j-2-init g c =
    let ring = g.F.Ring.ring in
    let dim = c.args.dim in
    let row : ℕ → List g.row.F.Denot = λ j. row_at c.args.pivots.now c.args.form.now.rows j (unit_row ring dim j) in
    let later : ℕ → Poly g.row.F.Denot = λ j. term_poly ring ring.one (variable j) in
    let all : c.loop-j.j ≡ dim = omega (arith, c.loop-j-test.false, c.loop-j.auto.j-end) in
    let none : 0 ≡ dim - dim = omega arith in
    let rows = map (linear_form ring) (essential_rows ring dim c.args.pivots.now c.args.form.now.rows) in
    c.loop-j.invariant ∙ ap (λ n. map (λ j. linear_form ring (row j)) (range_with_len 1 n)) all ∙ sym (map-map (linear_form ring) row (one_to dim))
    ∙ sym (append-nil rows) ∙ ap (λ n. rows ++ map later (range_with_len (dim + 1) n)) none

pub loop-j-2-preserved : goal.loop-j-2-preserved
loop-j-2-preserved g c =
    let ring = g.F.Ring.ring in
    let dim = c.args.dim in
    let j = c.loop-j-2.j in
    let later : ℕ → Poly g.row.F.Denot = λ j. term_poly ring ring.one (variable j) in
    let rows = map (linear_form ring) (essential_rows ring dim c.args.pivots.now c.args.form.now.rows) in
    let place : (dim + 1) + (j - dim) ≡ j + 1 = omega (arith, c.loop-j-2.auto.j) in
    let next : (j - dim) + 1 ≡ j + 1 - dim = omega (arith, c.loop-j-2.auto.j) in
    next-value_from (dim + 1) later rows c.loop-j-2.xs.items c.push-in-loop-j-2.new.self.items _ (j - dim) (j + 1) place
    c.loop-j-2.invariant c.in_ok-variable.ensures c.in_ok-push-2.ensures.items
    ∙ ap (λ n. rows ++ map later (range_with_len (dim + 1) n)) next
