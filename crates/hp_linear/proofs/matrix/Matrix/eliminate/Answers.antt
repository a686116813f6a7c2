use Rattle.std.proofs.Common.{◌≡◌, ◌+◌, ◌-◌, ◌<◌, List, [], ◌∷◌, length, drop, get_or, sym, ap, ◌∙◌, subst, arith}
use Rattle.std.proofs.lemmas.List.{drop_more}
use Rattle.std.proofs.lemmas.List.Elements.{All-drop}
use Rattle.hp_algebra.specs.Rows.{IsRow}
use Rattle.hp_linear.specs.Spaces.{HaveSameSpan}
use Rattle.hp_linear.specs.Matrices.{IsMatrix}
use Rattle.hp_linear.specs.Echelon.{PivotRow, IsReduced, rows_of}
use Rattle.hp_linear.proofs.Reduction.{span-read}
use Rattle.hp_linear.proofs.matrix.Matrix.eliminate.Goals as goal

pub insert-requires : goal.insert-requires
insert-requires g c =
    let ring = g.F.Ring.ring in
    let row : c.in_ok-row.row.items ≡ c.row.result.now = c.in_ok-row.ensures.items in
    let is : IsRow ring c.args.self.now.cols c.in_ok-row.row.items = subst (IsRow ring c.args.self.now.cols) (sym row) c.row.ensures.row in
    record {
      reduced = subst (λ n. IsReduced ring n c.loop-k.kept.items) (sym is.0) c.loop-k.invariant.reduced;
      values = is.1;
    }

pub loop-k-preserved : goal.loop-k-preserved
loop-k-preserved g c =
    let ring = g.F.Ring.ring in
    let laws = g.met.F.Ring.ring_laws in
    let m = c.args.self.now in
    let k = c.loop-k.k - 1 in
    let same : k + 1 ≡ c.loop-k.k = omega arith in
    let inside : k < length m.rows = omega (arith, c.loop-k.invariant.within) in
    let matrix : IsMatrix ring m = subst (IsMatrix ring) c.self.view_is c.self.invariant in
    let row : List g.row.F.Denot = c.in_ok-row.row.items in
    let read : row ≡ get_or m.rows k [] = c.in_ok-row.ensures.items ∙ c.row.ensures.value in
    let is : IsRow ring m.cols row = subst (IsRow ring m.cols) (sym c.in_ok-row.ensures.items) c.row.ensures.row in
    let front : drop k m.rows ≡ row ∷ drop c.loop-k.k m.rows =
    drop_more m.rows k [] inside ∙ ap (λ y. y ∷ drop (k + 1) m.rows) (sym read) ∙ ap (λ n. row ∷ drop n m.rows) same in
    let more : List (PivotRow g.row.F.Denot) = c.in_ok-kept.kept.items in
    let reduced : IsReduced ring m.cols more = subst (λ n. IsReduced ring n more) is.0 c.in_ok-kept.ensures.reduced in
    let step = subst (λ n. HaveSameSpan ring n (row ∷ rows_of ring c.loop-k.kept.items) (rows_of ring more)) is.0 c.in_ok-kept.ensures.span in
    record {
      within = omega (arith, inside);
      reduced = reduced;
      span = subst (λ rows. HaveSameSpan ring m.cols rows (rows_of ring more)) (sym front)
          (span-read laws m.cols (drop c.loop-k.k m.rows) row c.loop-k.kept.items more (All-drop (IsRow ring m.cols) c.loop-k.k m.rows matrix) is c.loop-k.invariant.reduced reduced c.loop-k.invariant.span step);
    }

pub returns-clause-span : goal.returns-clause-span
returns-clause-span g c =
    let ring = g.F.Ring.ring in
    let m = c.args.self.now in
    let done : c.loop-k.k ≡ 0 = omega (arith, c.loop-k-test.false) in
    subst (λ k. HaveSameSpan ring m.cols (drop k m.rows) (rows_of ring c.loop-k.kept.items)) done c.loop-k.invariant.span
