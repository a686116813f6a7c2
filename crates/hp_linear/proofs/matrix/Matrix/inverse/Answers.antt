use Rattle.std.proofs.Common.{◌≡◌, ◌+◌, ◌<◌, ◌≤◌, ℕ, List, length, map, drop, get_or, Vec, Global, sym, ap, ◌∙◌, subst, arith}
use Rattle.std.proofs.lemmas.Bool.{false≢true}
use Rattle.std.proofs.lemmas.List.{length-map, get_or-map}
use Rattle.std.proofs.lemmas.List.Elements.{Contains-get_or}
use Rattle.hp_algebra.specs.Ring.{RingOf}
use Rattle.hp_linear.specs.Spaces.{HaveSameSpan}
use Rattle.hp_linear.specs.Matrices.{Matrix, IsInverse, with_identity}
use Rattle.hp_linear.specs.Echelon.{PivotRow, IsReduced, rows_of}
use Rattle.hp_linear.proofs.InverseMatrices.{parts-are, inverse-from, inverse-full}
use Rattle.hp_linear.proofs.matrix.Matrix.inverse.Goals as goal

pub returns-then-not-fill_columns-clause-none : goal.returns-then-not-fill_columns-clause-none
returns-then-not-fill_columns-clause-none g c none x inv =
    let ring = g.F.Ring.ring in
    let m = c.args.self.now in
    let kept = c.in_ok-kept.kept.items in
    let ext : c.in_ok-extended.extended ≡ with_identity ring m = c.in_ok-extended.ensures.extended in
    let full = inverse-full g.met.F.Field.field_laws m kept c.in_ok-extended.ensures.matrix c.requires
    (subst (λ (e : Matrix g.row.F.Denot). IsReduced ring e.cols kept) ext c.in_ok-kept.ensures.reduced)
    (subst (λ (e : Matrix g.row.F.Denot). HaveSameSpan ring e.cols e.rows (rows_of ring kept)) ext c.in_ok-kept.ensures.span) x inv in
    let shown : c.deref.result.now ≡ kept = c.deref.ensures.value in
    let cols : c.cols-cols.result ≡ m.cols = c.cols-cols.ensures.value in
    let passes = c.fill_columns.ensures.1 (
      ap (λ (ks : List (PivotRow g.row.F.Denot)). length ks) shown ∙ full.0 ∙ sym cols,
      λ k p l. ap (λ (ks : List (PivotRow g.row.F.Denot)). (get_or ks k p).column) shown ∙ full.1 k p (subst (λ n. k < n) cols l),
    ) in
    false≢true (sym c.if-not-fill_columns.true ∙ passes)

pub rests_of-requires : goal.rests_of-requires
rests_of-requires g c =
    let ring = g.F.Ring.ring in
    let m = c.args.self.now in
    let kept = c.in_ok-kept.kept.items in
    let ext : c.in_ok-extended.extended ≡ with_identity ring m = c.in_ok-extended.ensures.extended in
    let is : IsReduced ring (m.cols + m.cols) kept = subst (λ (e : Matrix g.row.F.Denot). IsReduced ring e.cols kept) ext c.in_ok-kept.ensures.reduced in
    subst (λ (ks : List (PivotRow g.row.F.Denot)). (k : ℕ) → (d : PivotRow g.row.F.Denot) → k < length ks → c.cols-cols.result ≤ length (get_or ks k d).entries) (sym c.deref-2.ensures.value)
    (λ k d l. omega (arith, (is.each _ (Contains-get_or kept k d l)).row.0, c.cols-cols.ensures.value))

-- what the test says of the reduced rows
record IsFull {F : Type 0} (ring : RingOf F) (m : Matrix F) (kept : List (PivotRow F)) : Type 0 where
  reduced : IsReduced ring (m.cols + m.cols) kept
  span : HaveSameSpan ring (m.cols + m.cols) (with_identity ring m).rows (rows_of ring kept)
  full : length kept ≡ m.cols
  placed : (k : ℕ) (p : PivotRow F) → k < m.cols → (get_or kept k p).column ≡ k

from_test : {F : Type 0} (ring : RingOf F) (m extended : Matrix F) (kept lent : List (PivotRow F)) (n : ℕ) → extended ≡ with_identity ring m → lent ≡ kept → n ≡ m.cols
    → IsReduced ring extended.cols kept → HaveSameSpan ring extended.cols extended.rows (rows_of ring kept) → (length lent ≡ n) × ((k : ℕ) (p : PivotRow F) → k < n → (get_or lent k p).column ≡ k) → IsFull ring m kept
from_test ring m extended kept lent n ext shown cols is same t = record {
  reduced = subst (λ e. IsReduced ring e.cols kept) ext is;
  span = subst (λ e. HaveSameSpan ring e.cols e.rows (rows_of ring kept)) ext same;
  full = ap (λ ks. length ks) (sym shown) ∙ t.0 ∙ cols;
  placed = λ k p l. ap (λ ks. (get_or ks k p).column) (sym shown) ∙ t.1 k p (subst (λ i. k < i) (sym cols) l);
}

-- the rows that are read off are the right parts
same_rows : {F V : Type 0} (f : V → List F) (rows : List V) (kept lent : List (PivotRow F)) (n k : ℕ) → lent ≡ kept → n ≡ k → map f rows ≡ map (λ p. drop n p.entries) lent → map f rows ≡ map (λ p. drop k p.entries) kept
same_rows f rows kept lent n k shown cols e = e ∙ (λ i. map (λ p. drop (cols i) p.entries) (shown i))

pub new-requires : goal.new-requires
new-requires g c =
    let ring = g.F.Ring.ring in
    let m = c.args.self.now in
    let kept = c.in_ok-kept.kept.items in
    let rows = c.in_ok-rows.rows.items in
    let f : Vec g.row.F.Denot Global → List g.row.F.Denot = λ row. row.items in
    let all = from_test ring m c.in_ok-extended.extended kept c.deref.result.now c.cols-cols.result c.in_ok-extended.ensures.extended c.deref.ensures.value c.cols-cols.ensures.value
    c.in_ok-kept.ensures.reduced c.in_ok-kept.ensures.span (c.fill_columns.ensures.0 c.if-not-fill_columns.false) in
    let same : map f rows ≡ _ = same_rows f rows kept c.deref-2.result.now c.cols-cols.result m.cols c.deref-2.ensures.value c.cols-cols.ensures.value c.in_ok-rows.ensures in
    let are = parts-are g.met.F.Ring.ring_laws m kept c.in_ok-extended.ensures.matrix c.requires all.reduced all.span all.full all.placed in
    λ k d h.
    let inside : k < length (map f rows) = subst (λ n. k < n) (sym (length-map rows f)) h in
    ap (λ (r : List g.row.F.Denot). length r) (sym (get_or-map f rows k d d.items h) ∙ ap (λ (rs : List (List g.row.F.Denot)). get_or rs k d.items) same)
    ∙ (are k d.items (subst (λ (rs : List (List g.row.F.Denot)). k < length rs) same inside)).0 ∙ sym c.cols-cols.ensures.value

pub returns-clause-some : goal.returns-clause-some
returns-clause-some g c =
    let m = c.args.self.now in
    let kept = c.in_ok-kept.kept.items in
    let all = from_test g.F.Ring.ring m c.in_ok-extended.extended kept c.deref.result.now c.cols-cols.result c.in_ok-extended.ensures.extended c.deref.ensures.value c.cols-cols.ensures.value
    c.in_ok-kept.ensures.reduced c.in_ok-kept.ensures.span (c.fill_columns.ensures.0 c.if-not-fill_columns.false) in
    let same = same_rows (λ (row : Vec g.row.F.Denot Global). row.items) c.in_ok-rows.rows.items kept c.deref-2.result.now c.cols-cols.result m.cols c.deref-2.ensures.value c.cols-cols.ensures.value c.in_ok-rows.ensures in
    let cols = c.cols-cols.ensures.value in
    subst (IsInverse g.F.Ring.ring m) (sym (c.new.ensures ∙ (λ i. record { cols = cols i; rows = same i })))
    (inverse-from g.met.F.Ring.ring_laws m kept c.in_ok-extended.ensures.matrix c.requires all.reduced all.span all.full all.placed)
