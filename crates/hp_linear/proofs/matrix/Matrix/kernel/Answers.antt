use Rattle.std.proofs.Common.{◌≡◌, ◌+◌, ◌++◌, List, [], ◌∷◌, length, map, Contains, Vec, Global, sym, ap, ◌∙◌, subst, arith}
use Rattle.std.proofs.lemmas.Bool.{false≢true}
use Rattle.std.proofs.lemmas.List.{length-map, length-append, map-append}
use Rattle.hp_linear.specs.Echelon.{PivotRow, IsFreeSolution, rows_of}
use Rattle.hp_linear.proofs.Dimension.{rank-unique}
use Rattle.hp_linear.proofs.Kernels.{AreFreeSolutions, solutions-none, solutions-same, solutions-more, pivots_below, pivots-start, pivots-none, pivots-one, pivots-all, columns-rise, kernel-basis}
use Rattle.hp_linear.proofs.Units.{reduced-rank}
use Rattle.hp_linear.proofs.matrix.Matrix.kernel.Goals as goal
use Rattle.hp_linear.proofs.matrix.Matrix.kernel.Goals.{then-not-has_pivot+in_ok-free_solution+in_ok-push, else-not-has_pivot}

pub loop-free-init : goal.loop-free-init
loop-free-init g c =
    let laws = g.met.F.Ring.ring_laws in
    let f : Vec g.row.F.Denot Global → List g.row.F.Denot = λ row. row.items in
    let kept = c.in_ok-kept.kept.items in
    ([], ap (λ (xs : List (Vec g.row.F.Denot Global)). map f xs) c.new-basis.ensures.items, solutions-none laws c.args.self.now.cols kept, ap (λ n. 0 + n) (pivots-start laws kept))

pub loop-free-preserved : goal.loop-free-preserved
loop-free-preserved g c =
    let laws = g.met.F.Ring.ring_laws in
    let ring = g.F.Ring.ring in
    let m = c.args.self.now in
    let f : Vec g.row.F.Denot Global → List g.row.F.Denot = λ row. row.items in
    let kept : List (PivotRow g.row.F.Denot) = c.in_ok-kept.kept.items in
    let k = c.loop-free.free in
    let before = c.loop-free.invariant in
    let made : List (PivotRow g.row.F.Denot) = before.0 in
    elim c.if-not-has_pivot.branch [
      | then-not-has_pivot+in_ok-free_solution+in_ok-push w ↦
          let x : Vec g.row.F.Denot Global = w.in_ok-free_solution.field-0 in
          let new : PivotRow g.row.F.Denot = record { column = k; entries = x.items } in
          let apart : (p : PivotRow g.row.F.Denot) → Contains kept p → p.column ≡ k → ⊥ =
          λ p i e. false≢true (sym w.if-not-has_pivot.true ∙ c.has_pivot.ensures.1 (p, subst (λ (ks : List (PivotRow g.row.F.Denot)). Contains ks p) (sym c.deref.ensures.value) i, e)) in
          let solution : IsFreeSolution ring m.cols kept k x.items =
          subst (λ n. IsFreeSolution ring n kept k x.items) c.cols-cols.ensures.value
          (subst (λ (ks : List (PivotRow g.row.F.Denot)). IsFreeSolution ring c.cols-cols.result ks k x.items) w.deref-then-not-has_pivot.ensures.value w.in_ok-free_solution.ensures) in
          let pushed : c.if-not-has_pivot.basis.items ≡ c.loop-free.basis.items ++ x ∷ [] = ap (λ (v : Vec (Vec g.row.F.Denot Global) Global). v.items) w.basis-is ∙ w.in_ok-push.ensures.items in
          let rows : map f c.if-not-has_pivot.basis.items ≡ rows_of ring (made ++ new ∷ []) =
          ap (λ (xs : List (Vec g.row.F.Denot Global)). map f xs) pushed ∙ map-append f c.loop-free.basis.items (x ∷ [])
          ∙ ap (λ (rs : List (List g.row.F.Denot)). rs ++ x.items ∷ []) before.1 ∙ sym (map-append (λ (p : PivotRow g.row.F.Denot). p.entries) made (new ∷ [])) in
          let long : length (made ++ new ∷ []) ≡ length made + 1 = length-append made (new ∷ []) in
          (made ++ new ∷ [], rows, solutions-more laws m.cols k kept made x.items apart solution before.2, omega (arith, long, before.3, pivots-none laws k kept apart))
      | else-not-has_pivot w ↦
          let found = c.has_pivot.ensures.0 w.if-not-has_pivot.false in
          let there : Contains kept found.0 = subst (λ (ks : List (PivotRow g.row.F.Denot)). Contains ks found.0) c.deref.ensures.value found.1 in
          let one = pivots-one laws k kept found.0 (columns-rise laws m.cols kept c.in_ok-kept.ensures.reduced) there found.2 in
          (made, ap (λ (v : Vec (Vec g.row.F.Denot Global) Global). map f v.items) w.basis-is ∙ before.1, solutions-same laws m.cols k kept made (found.0, there, found.2) before.2, omega (arith, before.3, one))
    ]

pub returns-clause-basis : goal.returns-clause-basis
returns-clause-basis g c =
    let laws = g.met.F.Ring.ring_laws in
    let ring = g.F.Ring.ring in
    let m = c.args.self.now in
    let kept = c.in_ok-kept.kept.items in
    let after = c.loop-free.invariant in
    let done : c.loop-free.free ≡ m.cols = omega (arith, c.loop-free-test.false, c.loop-free.auto.free-end, c.cols-cols.ensures.value) in
    let all : AreFreeSolutions laws m.cols kept m.cols after.0 = subst (λ k. AreFreeSolutions laws m.cols kept k after.0) done after.2 in
    rw after.1 (kernel-basis laws g.met.F.CommRing.commutes m kept after.0 c.in_ok-kept.ensures.matrix c.in_ok-kept.ensures.reduced c.in_ok-kept.ensures.span all)

pub returns-clause-nullity : goal.returns-clause-nullity
returns-clause-nullity g c r is =
    let laws = g.met.F.Ring.ring_laws in
    let ring = g.F.Ring.ring in
    let m = c.args.self.now in
    let f : Vec g.row.F.Denot Global → List g.row.F.Denot = λ row. row.items in
    let kept = c.in_ok-kept.kept.items in
    let basis = c.loop-free.basis.items in
    let after = c.loop-free.invariant in
    let done : c.loop-free.free ≡ m.cols = omega (arith, c.loop-free-test.false, c.loop-free.auto.free-end, c.cols-cols.ensures.value) in
    let rank : r ≡ length kept = rank-unique g.met.F.Field.field_laws m r (length kept) c.in_ok-kept.ensures.matrix is (reduced-rank laws m kept c.in_ok-kept.ensures.reduced c.in_ok-kept.ensures.span) in
    let pivots : pivots_below laws m.cols kept ≡ length kept = pivots-all laws m.cols kept (λ p i. (c.in_ok-kept.ensures.reduced.each p i).inside) in
    let count : length after.0 + pivots_below laws m.cols kept ≡ m.cols = subst (λ k. length after.0 + pivots_below laws k kept ≡ k) done after.3 in
    let many : length basis ≡ length after.0 = sym (length-map basis f) ∙ ap (λ (rows : List (List g.row.F.Denot)). length rows) after.1 ∙ length-map after.0 (λ (p : PivotRow g.row.F.Denot). p.entries) in
    omega (arith, rank, pivots, count, many)
