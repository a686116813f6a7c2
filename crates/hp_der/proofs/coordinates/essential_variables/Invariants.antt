use Rattle.std.proofs.Common.{◌≡◌, [], ◌+◌, ◌-◌, ◌++◌, map}
use Rattle.hp_algebra.specs.Rows.{unit_row}
use Rattle.hp_lists.specs.Lists.{range_with_len}
use Rattle.hp_mono.specs.Monomials.{variable}
use Rattle.hp_poly.specs.Polynomials.{linear_form, term_poly}
use Rattle.hp_graded.specs.EssentialRows.{essential_rows, row_at}
use Rattle.hp_der.proofs.coordinates.essential_variables.Given as goal

abbrev pub invariant-loop-j : goal.invariant-loop-j
invariant-loop-j g l =
    let ring = g.F.Ring.ring in
    l.xs.items ≡ [] ++ map (λ j. linear_form ring (row_at l.pivots l.form.rows j (unit_row ring l.dim j))) (range_with_len 1 l.j)

abbrev pub invariant-loop-j-2 : goal.invariant-loop-j-2
invariant-loop-j-2 g l =
    let ring = g.F.Ring.ring in
    l.xs.items ≡ map (linear_form ring) (essential_rows ring l.dim l.pivots l.form.rows)
    ++ map (λ j. term_poly ring ring.one (variable j)) (range_with_len (l.dim + 1) (l.j - l.dim))
