-- Rows each of which has a column of its own, where it holds 1 and the others 0: their coefficients in a combination stand there, so they are independent.
use Rattle.std.proofs.Common.{◌≡◌, ◌≢◌, ◌⊎◌, ◌↔◌, ℕ, ◌<◌, ◌≤◌, List, [], map, length, All, get_or, sym, ap, subst, ◌∙◌, arith, inl, inr}
use Rattle.std.proofs.lemmas.Bool.{cases_lt}
use Rattle.std.proofs.lemmas.List.{length-map, get_or-map}
use Rattle.std.proofs.lemmas.List.Elements.{All-map, Contains-get_or}
use Rattle.hp_algebra.specs.Ring.{RingOf, IsRing}
use Rattle.hp_algebra.proofs.Rings.{mul_zero}
use Rattle.hp_algebra.specs.Rows.{IsRow, entry, zero_row, row_times}
use Rattle.hp_linear.specs.Spaces.{AreCoefficients, IsCombination, AreIndependent, HaveSameSpan}
use Rattle.hp_linear.specs.Matrices.{Matrix, IsRank}
use Rattle.hp_linear.specs.Echelon.{PivotRow, IsReduced, IsLeftOf, rows_of}
use Rattle.hp_lists.proofs.Ordered.{Ordered-at}
use Rattle.hp_algebra.proofs.Rows.{row-ext, zero_row-ext, entry-value, entry-zeros}
use Rattle.hp_linear.proofs.Combinations.{entry-times, span-member}
use Rattle.hp_algebra.proofs.Dots.{dot-single}
use Rattle.hp_linear.proofs.Reduction.{reduced-rows}

module _ {R : Type 0} {ring : RingOf R} (laws : IsRing ring) where
  pub record HaveUnitColumns (width : ℕ) (kept : List (PivotRow R)) : Type 0 where
    pub are : All (IsRow ring width) (rows_of ring kept)
    pub inside : (k : ℕ) (d : PivotRow R) → k < length kept → (get_or kept k d).column < width
    pub one : (k : ℕ) (d : PivotRow R) → k < length kept
        → entry ring (get_or kept k d).entries (get_or kept k d).column ≡ ring.one
    pub others : (h k : ℕ) (d : PivotRow R) → h < length kept → k < length kept → h ≢ k
        → entry ring (get_or kept h d).entries (get_or kept k d).column ≡ ring.zero

  pub reduced-units : (width : ℕ) (kept : List (PivotRow R)) → IsReduced ring width kept → HaveUnitColumns width kept
  reduced-units width kept is = record {
    are = reduced-rows laws width kept is;
    inside = λ k d l. (is.each _ (Contains-get_or kept k d l)).inside;
    one = λ k d l. (is.each _ (Contains-get_or kept k d l)).one;
    others = λ h k d lh lk ne. apart h k d lh lk ne (cases_lt h k);
  }
    where
      apart : (h k : ℕ) (d : PivotRow R) → h < length kept → k < length kept → h ≢ k → (h < k) ⊎ (k ≤ h)
          → entry ring (get_or kept h d).entries (get_or kept k d).column ≡ ring.zero
      apart h k d lh lk ne (inl l) = (Ordered-at (IsLeftOf ring) kept h k d is.ordered l lk).clear
      apart h k d lh lk ne (inr l) = (is.each _ (Contains-get_or kept h d lh)).first _ (Ordered-at (IsLeftOf ring) kept k h d is.ordered (omega arith) lh).left

  module _ (width : ℕ) (kept : List (PivotRow R)) (units : HaveUnitColumns width kept) where
    -- the coefficient of a row stands in its column
    pub unit-coefficient : (cs : List R) (k : ℕ) (d : PivotRow R) → AreCoefficients ring (length kept) cs
        → k < length kept
        → entry ring (row_times ring width cs (rows_of ring kept)) (get_or kept k d).column ≡ entry ring cs k
    unit-coefficient cs k d a l =
        let j = (get_or kept k d).column in
        let hj = units.inside k d l in
        let rows = rows_of ring kept in
        let column = map (λ row. entry ring row j) rows in
        let many : length rows ≡ length kept = length-map kept (λ (p : PivotRow R). p.entries) in
        let long : length column ≡ length kept = length-map rows (λ row. entry ring row j) ∙ many in
        let values : All ring.IsValue column = All-map ring.IsValue (λ row. entry ring row j) rows (λ i e m. entry-value laws width _ j hj (units.are i e m)) in
        let at : (h : ℕ) → h < length kept → entry ring column h ≡ entry ring (get_or kept h d).entries j =
        λ h m. get_or-map (λ row. entry ring row j) rows h d.entries ring.zero (subst (λ n. h < n) (sym many) m) ∙ ap (λ row. entry ring row j) (get_or-map (λ (p : PivotRow R). p.entries) kept h d d.entries m) in
        entry-times laws width cs rows j hj a.1 units.are
        ∙ dot-single laws (length kept) cs column k a (long, values) l (λ h m ne. ap (ring.mul (entry ring cs h)) (at h m ∙ units.others h k d m l ne) ∙ mul_zero laws _ (entry-value laws (length kept) cs h m a))
        ∙ ap (ring.mul (entry ring cs k)) (at k l ∙ units.one k d l) ∙ laws.mul_one _ (entry-value laws (length kept) cs k l a)

    -- the rows are independent
    pub units-independent : AreIndependent ring width (rows_of ring kept)
    units-independent cs a z =
        let many : length (rows_of ring kept) ≡ length kept = length-map kept (λ (p : PivotRow R). p.entries) in
        let a' : AreCoefficients ring (length kept) cs = (a.0 ∙ many, a.1) in
        let none : PivotRow R = record { column = 0; entries = [] } in
        zero_row-ext laws (length kept) cs a'.0 (λ k l.
        sym (unit-coefficient cs k none a' l) ∙ ap (λ v. entry ring v (get_or kept k none).column) z ∙ entry-zeros laws width _ (units.inside k none l))
        ∙ ap (zero_row ring) (sym many)

    -- the entries in the columns of the rows
    abbrev pub at_units : List R → List R
    at_units v = map (λ p. entry ring v p.column) kept

    pub at_units-row : (v : List R) → IsRow ring width v → AreCoefficients ring (length kept) (at_units v)
    at_units-row v r = (length-map kept (λ p. entry ring v p.column), All-map ring.IsValue (λ (p : PivotRow R). entry ring v p.column) kept (λ k d l. entry-value laws width v _ (units.inside k d l) r))

    -- a combination has its coefficients in the columns of the rows
    pub coefficients-at : (cs : List R) → AreCoefficients ring (length kept) cs
        → cs ≡ at_units (row_times ring width cs (rows_of ring kept))
    coefficients-at cs a =
        let v = row_times ring width cs (rows_of ring kept) in
        let none : PivotRow R = record { column = 0; entries = [] } in
        row-ext ring (length kept) cs (at_units v) a.0 (length-map kept (λ p. entry ring v p.column)) (λ k l.
        sym (unit-coefficient cs k none a l) ∙ sym (get_or-map (λ (p : PivotRow R). entry ring v p.column) kept k none ring.zero l))

    -- A row is in the span exactly where it is the combination with its entries in the columns of the rows.
    pub in_span-test : (v : List R) → IsRow ring width v
        → IsCombination ring width (rows_of ring kept) v ↔ (v ≡ row_times ring width (at_units v) (rows_of ring kept))
    in_span-test v r =
        let many : length (rows_of ring kept) ≡ length kept = length-map kept (λ (p : PivotRow R). p.entries) in (
          λ c. c.2 ∙ ap (λ cs. row_times ring width cs (rows_of ring kept)) (coefficients-at c.0 (c.1.0 ∙ many, c.1.1) ∙ ap at_units (sym c.2)),
          λ e. (let a = at_units-row v r in (at_units v, (a.0 ∙ sym many, a.1), e)),
        )

  -- the rank is the number of reduced rows with the same span
  pub reduced-rank : (m : Matrix R) (kept : List (PivotRow R)) → IsReduced ring m.cols kept
      → HaveSameSpan ring m.cols m.rows (rows_of ring kept) → IsRank ring m (length kept)
  reduced-rank m kept is same = (
    rows_of ring kept,
    record {
      members = λ v c. (same v).1 (span-member laws m.cols (rows_of ring kept) v (reduced-rows laws m.cols kept is) c);
      spanning = λ v c. (same v).0 c;
      independent = units-independent m.cols kept (reduced-units m.cols kept is);
    },
    length-map kept (λ (p : PivotRow R). p.entries),
  )
