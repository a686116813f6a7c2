use Rattle.std.proofs.Common.{◌≡◌, ◌≢◌, ◌+◌, List, take, Contains, sym, ap, ◌∙◌, subst}
use Rattle.std.proofs.lemmas.Bool.{false≢true}
use Rattle.hp_algebra.specs.Rows.{row_scale}
use Rattle.hp_linear.specs.Spaces.{HaveSameSpan}
use Rattle.hp_linear.specs.Matrices.{Matrix, IsMatrix, IsSolution, with_column}
use Rattle.hp_linear.specs.Echelon.{PivotRow, IsReduced, IsFreeSolution, rows_of}
use Rattle.hp_linear.proofs.Solutions.{solution-from, solution-none}
use Rattle.hp_linear.proofs.matrix.Matrix.solve.Goals as goal

pub returns-then-has_pivot-clause-none : goal.returns-then-has_pivot-clause-none
returns-then-has_pivot-clause-none g c none x solves =
    let ring = g.F.Ring.ring in
    let m = c.args.self.now in
    let b = c.args.b.now in
    let kept = c.in_ok-kept.kept.items in
    let ext : c.in_ok-extended.extended ≡ with_column ring m b = c.in_ok-extended.ensures.extended in
    let found = c.has_pivot.ensures.0 c.if-has_pivot.true in
    solution-none g.met.F.Ring.ring_laws g.met.F.CommRing.commutes m b kept c.in_ok-extended.ensures.matrix c.in_ok-extended.ensures.values c.requires
    (subst (IsMatrix ring) ext c.in_ok-kept.ensures.matrix)
    (subst (λ (e : Matrix g.row.F.Denot). IsReduced ring e.cols kept) ext c.in_ok-kept.ensures.reduced)
    (subst (λ (e : Matrix g.row.F.Denot). HaveSameSpan ring e.cols e.rows (rows_of ring kept)) ext c.in_ok-kept.ensures.span)
    found.0 x g.met.F.Field.field_laws.one_zero (subst (λ (ks : List (PivotRow g.row.F.Denot)). Contains ks found.0) c.deref.ensures.value found.1) (found.2 ∙ c.cols-cols.ensures.value) solves

pub returns-clause-some : goal.returns-clause-some
returns-clause-some g c =
    let ring = g.F.Ring.ring in
    let m = c.args.self.now in
    let b = c.args.b.now in
    let kept = c.in_ok-kept.kept.items in
    let ext : c.in_ok-extended.extended ≡ with_column ring m b = c.in_ok-extended.ensures.extended in
    let cols = c.cols-cols.ensures.value in
    let v = c.in_ok-c.c.items in
    let free : IsFreeSolution ring (m.cols + 1) kept m.cols v =
    subst (λ n. IsFreeSolution ring n kept m.cols v) (c.cols.ensures.value ∙ ap (λ (e : Matrix g.row.F.Denot). e.cols) ext)
    (subst (λ n. IsFreeSolution ring c.cols.result kept n v) cols
    (subst (λ (ks : List (PivotRow g.row.F.Denot)). IsFreeSolution ring c.cols.result ks c.cols-cols.result v) c.deref-2.ensures.value c.in_ok-c.ensures)) in
    let apart : (p : PivotRow g.row.F.Denot) → Contains kept p → p.column ≢ m.cols =
    λ p i e. false≢true (sym c.if-has_pivot.false ∙ c.has_pivot.ensures.1 (p, subst (λ (ks : List (PivotRow g.row.F.Denot)). Contains ks p) (sym c.deref.ensures.value) i, e ∙ sym cols)) in
    let made = solution-from g.met.F.Ring.ring_laws g.met.F.CommRing.commutes m b kept c.in_ok-extended.ensures.matrix c.in_ok-extended.ensures.values c.requires
    (subst (IsMatrix ring) ext c.in_ok-kept.ensures.matrix)
    (subst (λ (e : Matrix g.row.F.Denot). IsReduced ring e.cols kept) ext c.in_ok-kept.ensures.reduced)
    (subst (λ (e : Matrix g.row.F.Denot). HaveSameSpan ring e.cols e.rows (rows_of ring kept)) ext c.in_ok-kept.ensures.span)
    v apart free in
    let minus : c.negate.result ≡ ring.neg ring.one = c.negate.ensures.value ∙ ap ring.neg c.unit.ensures.value in
    let cut : c.truncate.new.self.items ≡ take m.cols v = c.truncate.ensures.items ∙ ap (λ n. take n v) cols in
    let whole : c.scaled.result.items ≡ row_scale ring (ring.neg ring.one) (take m.cols v) = c.scaled.ensures ∙ (λ i. row_scale ring (minus i) (cut i)) in
    subst (IsSolution ring m b) (sym whole) made
