-- A reduced row echelon form of rows that are added one at a time.
use Rattle.std.proofs.Common.{◌≡◌, ℕ, ◌+◌, ◌-◌, ◌<◌, ◌≤◌, List, [], ◌∷◌, All, Contains, length, map, sym, ap, subst, ◌∙◌, arith}
use Rattle.std.proofs.lemmas.List.{get_or-map, length-map}
use Rattle.std.proofs.lemmas.List.Elements.{All-cons, Contains-get_or}
use Rattle.hp_algebra.specs.Ring.{RingOf, IsRing}
use Rattle.hp_algebra.specs.Rows.{IsRow}
use Rattle.hp_linear.specs.Spaces.{HaveSameSpan}
use Rattle.hp_linear.specs.Matrices.{IsEchelonForm}
use Rattle.hp_linear.specs.Echelon.{PivotRow, IsReduced, rows_of}
use Rattle.hp_linear.specs.GrowingForms.{GrowingForm, IsFormOf, IsFull}
use Rattle.hp_linear.proofs.EchelonForms.{pivots_of, reduced-form}
use Rattle.hp_linear.proofs.Reduction.{span-read}

module _ {R : Type 0} {ring : RingOf R} (laws : IsRing ring) where
  -- one row more
  pub form-more : {f : GrowingForm R} {row : List R} {more : List (PivotRow R)} → IsReduced ring f.cols f.kept → IsReduced ring f.cols more
      → IsRow ring f.cols row → HaveSameSpan ring f.cols (row ∷ rows_of ring f.kept) (rows_of ring more)
      → {rows : List (List R)} → IsFormOf ring f rows → IsFormOf ring (record { cols = f.cols; kept = more }) (row ∷ rows)
  form-more {f} {row} {more} is after r step {rows} of = record {
    each = All-cons (IsRow ring f.cols) row rows r of.each;
    same_span = span-read laws f.cols rows row f.kept more of.each r is after of.same_span step;
  }

  pub form-echelon : {f : GrowingForm R} → IsReduced ring f.cols f.kept → {rows : List (List R)} → IsFormOf ring f rows
      → IsEchelonForm ring (record { cols = f.cols; rows = rows }) (record { cols = f.cols; rows = rows_of ring f.kept }) (pivots_of laws f.kept)
  form-echelon {f} is {rows} of = reduced-form laws (record { cols = f.cols; rows = rows }) f.kept is of.same_span

-- each column is that of a pivot
pub full-pivots : {R : Type 0} {f : GrowingForm R} → IsFull f → (c : ℕ) → 1 ≤ c → c ≤ f.cols
    → Contains (map (λ p. p.column + 1) f.kept) c
full-pivots {R} {f} full c low high =
    let k : ℕ = c - 1 in
    let none : PivotRow R = record { column = 0; entries = [] } in
    let inside : k < f.cols = omega (arith, low, high) in
    let l : k < length f.kept = omega (arith, inside, full.many) in
    let number : PivotRow R → ℕ = λ p. p.column + 1 in
    let at = get_or-map number f.kept k none 0 l in
    let column = full.in_order k none inside in
    subst (Contains (map number f.kept)) (omega (arith, at, column, low))
    (Contains-get_or (map number f.kept) k 0 (omega (arith, l, length-map f.kept number)))
