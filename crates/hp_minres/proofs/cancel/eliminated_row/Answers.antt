use Rattle.std.proofs.Common.{All, ◌≡◌, ◌<◌, ◌+◌, ◌∙◌, [], get_or, length, remove, ap, sym, subst, arith}
use Rattle.std.proofs.lemmas.List.{get_or_default}
use Rattle.std.proofs.lemmas.List.Edits.{length-remove}
use Rattle.hp_poly.specs.Polynomials.{IsPoly, poly_neg, poly_plus, poly_times}
use Rattle.hp_poly.specs.PolyRing.{poly_is_ring}
use Rattle.hp_minres.proofs.EliminatedRows.{IsEliminating, eliminating-end, eliminating-set, eliminating-skip, minus_nothing}
use Rattle.hp_minres.proofs.cancel.eliminated_row.Goals as goal
use Rattle.hp_minres.proofs.cancel.eliminated_row.Goals.{then-not-is_zero+in_ok-sum, else-not-is_zero}

pub returns-then-is_zero : goal.returns-then-is_zero
returns-then-is_zero g c =
    let laws = g.met.F.Ring.ring_laws in
    let comm = g.met.F.CommRing.commutes in
    let row = c.args.row in
    let E = remove row c.args.c in
    let zs = c.args.others.now in
    let e : length E ≡ length zs = let n = length-remove row c.args.c c.requires.column in omega (arith, n, c.requires.lengths) in
    let ring = g.F.Ring.ring in
    let result = c.remove-x.result in
    let left = c.remove-x.ensures.items ∙ ap (λ ys. remove ys c.args.c) c.into_vec-entries.ensures in
    let xx : get_or row c.args.c [] ≡ result =
    sym (c.remove-x.ensures.value ∙ ap (λ ys. get_or ys c.args.c result) c.into_vec-entries.ensures
    ∙ get_or_default row c.args.c result [] c.requires.column) in
    let hE : All (IsPoly ring) E = subst (All (IsPoly ring)) (c.as_slice.ensures.value ∙ left) c.greatest_weight-weight.ensures.values in
    let P = poly_is_ring laws comm in
    c.of.ensures ∙ left
    ∙ minus_nothing laws comm (get_or row c.args.c []) E zs
    (xx ∙ (P.zero_test result c.is_zero.ensures.of).0 (sym c.is_zero.ensures.value ∙ c.if-is_zero.true)) e hE c.greatest_weight-weight-2.ensures.values

pub loop-j-preserved : goal.loop-j-preserved
loop-j-preserved g c =
    let laws = g.met.F.Ring.ring_laws in
    let comm = g.met.F.CommRing.commutes in
    let row = c.args.row in
    let E = remove row c.args.c in
    let zs = c.args.others.now in
    let x = get_or row c.args.c [] in
    let j = c.loop-j.j in
    let e : length E ≡ length zs = let n = length-remove row c.args.c c.requires.column in omega (arith, n, c.requires.lengths) in
    let l : j < length zs = omega (arith, c.loop-j-test.true) in
    let ring = g.F.Ring.ring in
    let result = c.remove-x.result in
    let left = c.remove-x.ensures.items ∙ ap (λ ys. remove ys c.args.c) c.into_vec-entries.ensures in
    let xx : get_or row c.args.c [] ≡ result =
    sym (c.remove-x.ensures.value ∙ ap (λ ys. get_or ys c.args.c result) c.into_vec-entries.ensures
    ∙ get_or_default row c.args.c result [] c.requires.column) in
    let hE : All (IsPoly ring) E = subst (All (IsPoly ring)) (c.as_slice.ensures.value ∙ left) c.greatest_weight-weight.ensures.values in
    let P = poly_is_ring laws comm in
    elim c.if-not-is_zero.branch [
      | then-not-is_zero+in_ok-sum w ↦
          subst (λ v. IsEliminating laws comm x E zs (j + 1) v) (sym (ap (λ v. v.items) w.entries-is))
          (eliminating-set laws comm x E zs e j c.loop-j.entries.items l c.loop-j.invariant w.in_ok-sum.sum
          (w.in_ok-sum.ensures ∙ (λ t. poly_plus ring
          ((w.index.ensures ∙ get_or_default c.loop-j.entries.items j w.index.result.now [] (omega (arith, c.loop-j.invariant.same_length, e, l))) t)
          (poly_neg ring (poly_times ring (sym xx t)
          ((w.index-others-j-then-not-is_zero.is ∙ get_or_default zs j w.index-others-j-then-not-is_zero.result [] l) t))))))
      | else-not-is_zero w ↦
          subst (λ v. IsEliminating laws comm x E zs (j + 1) v) (sym (ap (λ v. v.items) w.entries-is))
          (eliminating-skip laws comm x E zs e j c.loop-j.entries.items l c.loop-j.invariant
          (subst (IsPoly ring) (sym xx) c.is_zero.ensures.of) hE
          (sym (c.index-others-j.is ∙ get_or_default zs j c.index-others-j.result [] l)
          ∙ (P.zero_test c.index-others-j.result c.is_zero-in-loop-j.ensures.of).0
          (sym c.is_zero-in-loop-j.ensures.value ∙ w.if-not-is_zero.false)))
    ]

pub returns : goal.returns
returns g c =
    let laws = g.met.F.Ring.ring_laws in
    let comm = g.met.F.CommRing.commutes in
    let row = c.args.row in
    let E = remove row c.args.c in
    let zs = c.args.others.now in
    let e : length E ≡ length zs = let n = length-remove row c.args.c c.requires.column in omega (arith, n, c.requires.lengths) in
    c.of-2.ensures ∙ eliminating-end laws comm (get_or row c.args.c []) E zs e c.loop-j.j c.loop-j.entries.items (omega (arith, c.loop-j-test.false)) c.loop-j.invariant
