-- The steps of elimination: rows stay reduced, and the span is that of the rows read.
use Rattle.std.proofs.Common.{◌≡◌, ◌≢◌, ◌⊎◌, ℕ, ◌+◌, ◌<◌, ◌≤◌, List, ◌∷◌, map, length, All, Contains, get_or, refl, sym, ap, subst, ◌∙◌, arith, inl, inr}
use Rattle.std.specs.List.{insert}
use Rattle.std.proofs.lemmas.Bool.{cases_eq, cases_lt}
use Rattle.std.proofs.lemmas.List.{length-map, get_or-map, get_or_default}
use Rattle.std.proofs.lemmas.List.Elements.{All-cons, Contains-get_or}
use Rattle.hp_algebra.specs.Ring.{RingOf, IsRing, IsField}
use Rattle.hp_algebra.proofs.Rings.{mul_zero, zero_add}
use Rattle.hp_algebra.specs.Rows.{IsRow, entry, zero_row, row_plus, row_scale}
use Rattle.hp_linear.specs.Spaces.{IsCombination, HaveSameSpan}
use Rattle.hp_linear.specs.Echelon.{PivotRow, IsPivotRow, IsLeftOf, IsReduced, IsReductionOf, IsMonic, rows_of, cleared_row, cleared}
use Rattle.hp_lists.proofs.Members.{Contains-here, Contains-cases, Contains-map, map-Contains, each-All}
use Rattle.hp_lists.proofs.Insertions.{insert-cases, insert-here, insert-others}
use Rattle.hp_lists.proofs.Ordered.{Ordered-at, Ordered-insert, Ordered-map, Ordered-weaker}
use Rattle.hp_algebra.proofs.Rows.{scale-row, plus-row, entry-value, entry-plus, entry-scale, plus-zeros, plus-assoc, scale-one, scale-zero, scale-scale, plus-undo}
use Rattle.hp_linear.proofs.Combinations.{combination-row, span-zero, span-plus, span-scale, span-more, span-member, span-least, same_span-from}

module _ {R : Type 0} {ring : RingOf R} (laws : IsRing ring) where
  -- ---- to clear the column of a pivot

  pub cleared-row : (width : ℕ) (p : PivotRow R) (row : List R) → IsPivotRow ring width p → IsRow ring width row
      → IsRow ring width (cleared_row ring p row)
  cleared-row width p row is r = plus-row laws width row _ r (scale-row laws width _ p.entries (laws.neg_value _ (entry-value laws width row p.column is.inside r)) is.row)

  -- a row of which no multiple of the pivot is to be added stays as it is
  pub cleared-same : (p : PivotRow R) (row : List R) → length row ≡ length p.entries → All ring.IsValue row
      → All ring.IsValue p.entries → ring.neg (entry ring row p.column) ≡ ring.zero → cleared_row ring p row ≡ row
  cleared-same p row e v w none =
      ap (λ c. row_plus ring row (row_scale ring c p.entries)) none
      ∙ ap (row_plus ring row) (scale-zero laws (length p.entries) p.entries (refl, w)) ∙ plus-zeros laws (length p.entries) row (e, v)

  entry-cleared : (width : ℕ) (p : PivotRow R) (row : List R) (j : ℕ) → j < width → IsPivotRow ring width p
      → IsRow ring width row
      → entry ring (cleared_row ring p row) j
      ≡ ring.add (entry ring row j) (ring.mul (ring.neg (entry ring row p.column)) (entry ring p.entries j))
  entry-cleared width p row j h is r =
      let vn = laws.neg_value _ (entry-value laws width row p.column is.inside r) in
      entry-plus laws width row _ j h r (scale-row laws width _ p.entries vn is.row) ∙ ap (ring.add (entry ring row j)) (entry-scale laws width _ p.entries j h is.row)

  -- the entry at the pivot becomes zero
  pub cleared-here : (width : ℕ) (p : PivotRow R) (row : List R) → IsPivotRow ring width p → IsRow ring width row
      → entry ring (cleared_row ring p row) p.column ≡ ring.zero
  cleared-here width p row is r =
      let v = entry-value laws width row p.column is.inside r in
      entry-cleared width p row p.column is.inside is r
      ∙ ap (ring.add (entry ring row p.column)) (ap (ring.mul _) is.one ∙ laws.mul_one _ (laws.neg_value _ v)) ∙ laws.add_neg _ v

  -- where p is zero the entry stays
  pub cleared-there : (width : ℕ) (p : PivotRow R) (row : List R) (j : ℕ) → j < width → IsPivotRow ring width p
      → IsRow ring width row → entry ring p.entries j ≡ ring.zero
      → entry ring (cleared_row ring p row) j ≡ entry ring row j
  cleared-there width p row j h is r e =
      let vn = laws.neg_value _ (entry-value laws width row p.column is.inside r) in
      entry-cleared width p row j h is r ∙ ap (ring.add (entry ring row j)) (ap (ring.mul _) e ∙ mul_zero laws _ vn) ∙ laws.add_zero _ (entry-value laws width row j h r)

  -- where the row is zero at the pivot all stays
  pub cleared-nothing : (width : ℕ) (p : PivotRow R) (row : List R) (j : ℕ) → j < width → IsPivotRow ring width p
      → IsRow ring width row → entry ring row p.column ≡ ring.zero
      → entry ring row j ≡ ring.zero → entry ring (cleared_row ring p row) j ≡ ring.zero
  cleared-nothing width p row j h is r e z =
      let none = ap ring.neg e ∙ sym (zero_add laws _ (laws.neg_value _ laws.zero_value)) ∙ laws.add_neg _ laws.zero_value in
      ap (λ s. entry ring s j) (cleared-same p row (r.0 ∙ sym is.row.0) r.1 is.row.1 none) ∙ z

  -- ---- reducing a row

  rows-are : (width : ℕ) (kept : List (PivotRow R)) → IsReduced ring width kept
      → All (IsRow ring width) (rows_of ring kept)
  rows-are width kept is = each-All (IsRow ring width) (rows_of ring kept) (λ b c. (let w = map-Contains (λ (p : PivotRow R). p.entries) kept b c in subst (IsRow ring width) w.2 (is.each w.0 w.1).row))

  pub reduced-rows : (width : ℕ) (kept : List (PivotRow R)) → IsReduced ring width kept
      → All (IsRow ring width) (rows_of ring kept)
  reduced-rows width kept is = rows-are width kept is

  -- row is old plus a combination of the kept rows
  abbrev pub DiffersBySpan : ℕ → List (PivotRow R) → List R → List R → Type 0
  DiffersBySpan width kept old row = (v : List R) × IsCombination ring width (rows_of ring kept) v × (row ≡ row_plus ring old v)

  pub differs-not : (width : ℕ) (kept : List (PivotRow R)) (old : List R) → IsReduced ring width kept
      → IsRow ring width old → DiffersBySpan width kept old old
  differs-not width kept old is r = (zero_row ring width, span-zero laws width _ (rows-are width kept is), sym (plus-zeros laws width old r))

  pub differs-more : (width : ℕ) (kept : List (PivotRow R)) (old row : List R) (p : PivotRow R)
      → IsReduced ring width kept → IsRow ring width old → IsRow ring width row → Contains kept p
      → DiffersBySpan width kept old row → DiffersBySpan width kept old (cleared_row ring p row)
  differs-more width kept old row p is ro r c d =
      let are = rows-are width kept is in
      let ip = is.each p c in
      let vn = laws.neg_value _ (entry-value laws width row p.column ip.inside r) in
      let multiple = row_scale ring (ring.neg (entry ring row p.column)) p.entries in
      let rm : IsRow ring width multiple = scale-row laws width _ p.entries vn ip.row in
      let rv = combination-row laws width _ d.0 are d.1 in (
        row_plus ring d.0 multiple,
        span-plus laws width _ are d.0 multiple d.1 (span-scale laws width _ are _ p.entries vn (span-member laws width _ p.entries are (Contains-map (λ (q : PivotRow R). q.entries) kept p c))),
        ap (λ s. row_plus ring s multiple) d.2 ∙ plus-assoc laws width old d.0 multiple ro rv rm,
      )

  -- the columns of the pivots up to k are zero after the step at k
  pub zeros-more : (width : ℕ) (kept : List (PivotRow R)) (row : List R) (k : ℕ) (p : PivotRow R)
      → IsReduced ring width kept → IsRow ring width row → k < length kept → p ≡ get_or kept k p
      → ((h : ℕ) (q : PivotRow R) → h < k → entry ring row (get_or kept h q).column ≡ ring.zero)
      → (h : ℕ) (q : PivotRow R) → h < k + 1 → entry ring (cleared_row ring p row) (get_or kept h q).column ≡ ring.zero
  zeros-more width kept row k p is r l at zeros h q m = step (cases_eq h k)
    where
      here : (d : PivotRow R) → p ≡ get_or kept k d
      here d = at ∙ get_or_default kept k p d l

      ip : IsPivotRow ring width p
      ip = is.each p (subst (Contains kept) (sym at) (Contains-get_or kept k p l))

      step : (h ≡ k) ⊎ (h ≢ k) → entry ring (cleared_row ring p row) (get_or kept h q).column ≡ ring.zero
      step (inl e) = subst (λ (s : PivotRow R). entry ring (cleared_row ring p row) s.column ≡ ring.zero) (here q ∙ ap (λ n. get_or kept n q) (sym e)) (cleared-here width p row ip r)
      step (inr ne) =
          let before : h < k = omega arith in
          let other = get_or kept h q in
          let io = is.each other (Contains-get_or kept h q (omega arith)) in
          let left = Ordered-at (IsLeftOf ring) kept h k q is.ordered before l in
          let further : other.column < p.column = subst (λ (s : PivotRow R). other.column < s.column) (sym (here q)) left.left in
          cleared-there width p row other.column io.inside ip r (ip.first other.column further) ∙ zeros h q before

  -- ---- one more pivot

  -- r has a pivot of its own: its entries in the columns of the others are zero
  pub record IsNewPivot (width : ℕ) (kept : List (PivotRow R)) (r : PivotRow R) : Type 0 where
    pub pivot : IsPivotRow ring width r
    pub zeros : (p : PivotRow R) → Contains kept p → entry ring r.entries p.column ≡ ring.zero

  cleared-pivot : (width : ℕ) (kept : List (PivotRow R)) (r p : PivotRow R) → IsReduced ring width kept
      → IsNewPivot width kept r → Contains kept p → IsPivotRow ring width (cleared ring r p)
  cleared-pivot width kept r p is new c =
      let ip = is.each p c in
      record {
        row = cleared-row width r p.entries new.pivot ip.row;
        inside = ip.inside;
        first = λ j h. first j h (cases_lt j r.column);
        one = cleared-there width r p.entries p.column ip.inside new.pivot ip.row (new.zeros p c) ∙ ip.one;
      }
    where
      first : (j : ℕ) → j < p.column → (j < r.column) ⊎ (r.column ≤ j)
          → entry ring (cleared_row ring r p.entries) j ≡ ring.zero
      first j h (inl l) =
          let ip = is.each p c in
          let inside : j < width = omega (arith, h, ip.inside) in
          cleared-there width r p.entries j inside new.pivot ip.row (new.pivot.first j l) ∙ ip.first j h
      first j h (inr l) =
          let ip = is.each p c in
          let inside : j < width = omega (arith, h, ip.inside) in
          cleared-nothing width r p.entries j inside new.pivot ip.row (ip.first r.column (omega arith)) (ip.first j h)

  cleared-ordered : (width : ℕ) (kept : List (PivotRow R)) (r p q : PivotRow R) → IsReduced ring width kept
      → IsNewPivot width kept r → Contains kept p → Contains kept q
      → IsLeftOf ring p q → IsLeftOf ring (cleared ring r p) (cleared ring r q)
  cleared-ordered width kept r p q is new c d left =
      let ip = is.each p c in
      let iq = is.each q d in
      record {
        left = left.left;
        clear = cleared-there width r p.entries q.column iq.inside new.pivot ip.row (new.zeros q d) ∙ left.clear;
      }

  -- the kept rows, cleared, with the new one at its place
  pub reduced-insert : (width : ℕ) (kept : List (PivotRow R)) (r : PivotRow R) (at : ℕ) → ring.one ≢ ring.zero
      → IsReduced ring width kept → IsNewPivot width kept r → at ≤ length kept
      → ((k : ℕ) (p : PivotRow R) → k < at → (get_or (map (cleared ring r) kept) k p).column < r.column)
      → ((p : PivotRow R) → at < length kept → r.column ≤ (get_or (map (cleared ring r) kept) at p).column)
      → IsReduced ring width (insert (map (cleared ring r) kept) at r)
  reduced-insert width kept r at proper is new within before after = record {
    each = λ p c. each p (insert-cases (map (cleared ring r) kept) at r p c);
    ordered =
        Ordered-insert (IsLeftOf ring) (map (cleared ring r) kept) at r
        (Ordered-map (IsLeftOf ring) (cleared ring r) kept
        (Ordered-weaker (IsLeftOf ring) _ kept (λ p q c d left. cleared-ordered width kept r p q is new c d left) is.ordered))
        (subst (λ n. at ≤ n) (sym long) within) earlier later;
  }
    where
      long : length (map (cleared ring r) kept) ≡ length kept
      long = length-map kept (cleared ring r)

      each : (p : PivotRow R) → (r ≡ p) ⊎ Contains (map (cleared ring r) kept) p → IsPivotRow ring width p
      each p (inl e) = subst (IsPivotRow ring width) e new.pivot
      each p (inr c) = let w = map-Contains (cleared ring r) kept p c in subst (IsPivotRow ring width) w.2 (cleared-pivot width kept r w.0 is new w.1)

      reading : (k : ℕ) → k < length kept → get_or (map (cleared ring r) kept) k r ≡ cleared ring r (get_or kept k r)
      reading k l = get_or-map (cleared ring r) kept k r r l

      earlier : (k : ℕ) → k < at → IsLeftOf ring (get_or (map (cleared ring r) kept) k r) r
      earlier k l =
          let inside : k < length kept = omega arith in
          let p = get_or kept k r in
          let ip = is.each p (Contains-get_or kept k r inside) in
          record {
            left = before k r l;
            clear = subst (λ (s : PivotRow R). entry ring s.entries r.column ≡ ring.zero) (sym (reading k inside)) (cleared-here width r p.entries new.pivot ip.row);
          }

      apart : (k : ℕ) → k < length kept → r.column ≡ (get_or kept k r).column → ⊥
      apart k l e = proper (sym new.pivot.one ∙ ap (entry ring r.entries) e ∙ new.zeros (get_or kept k r) (Contains-get_or kept k r l))

      at_column : at < length kept → r.column ≤ (get_or kept at r).column
      at_column l = subst (λ (s : PivotRow R). r.column ≤ s.column) (reading at l) (after r l)

      from : (k : ℕ) → at ≤ k → k < length kept → (at ≡ k) ⊎ (at ≢ k) → r.column ≤ (get_or kept k r).column
      from k low high (inl e) = subst (λ n. r.column ≤ (get_or kept n r).column) e (at_column (omega arith))
      from k low high (inr ne) =
          let first = at_column (omega arith) in
          let left = Ordered-at (IsLeftOf ring) kept at k r is.ordered (omega arith) high in
          omega (arith, first, left.left)

      later : (k : ℕ) → at ≤ k → k < length (map (cleared ring r) kept)
          → IsLeftOf ring r (get_or (map (cleared ring r) kept) k r)
      later k low high =
          let inside : k < length kept = omega (arith, long, high) in
          let p = get_or kept k r in
          let least = from k low inside (cases_eq at k) in
          let ne = apart k inside in
          subst (IsLeftOf ring r) (sym (reading k inside)) (record {
            left = omega (arith, least, ne);
            clear = new.zeros p (Contains-get_or kept k r inside);
          })

  -- ---- spans

  -- r is a multiple of a row that differs from the old one by the span of the kept rows, and the other way
  pub record IsFromRow (width : ℕ) (kept : List (PivotRow R)) (old row : List R) (r : PivotRow R) : Type 0 where
    pub differs : DiffersBySpan width kept old row
    pub multiple : (c : R) × ring.IsValue c × (r.entries ≡ row_scale ring c row)
    pub back : (c : R) × ring.IsValue c × (row ≡ row_scale ring c r.entries)

  pub span-insert : (width : ℕ) (kept : List (PivotRow R)) (old row : List R) (r : PivotRow R) (at : ℕ)
      → IsReduced ring width kept → IsRow ring width old → IsNewPivot width kept r
      → IsReduced ring width (insert (map (cleared ring r) kept) at r) → IsFromRow width kept old row r
      → HaveSameSpan ring width (old ∷ rows_of ring kept) (rows_of ring (insert (map (cleared ring r) kept) at r))
  span-insert width kept old row r at is ro new after by =
      same_span-from laws width before others before-rows others-rows (λ b c. others-in b c) (λ a c. old-in a (Contains-cases old (rows_of ring kept) a c))
    where
      cleared_list : List (PivotRow R)
      cleared_list = map (cleared ring r) kept

      before : List (List R)
      before = old ∷ rows_of ring kept

      others : List (List R)
      others = rows_of ring (insert (map (cleared ring r) kept) at r)

      kept-rows : All (IsRow ring width) (rows_of ring kept)
      kept-rows = rows-are width kept is

      before-rows : All (IsRow ring width) (old ∷ rows_of ring kept)
      before-rows = All-cons (IsRow ring width) old (rows_of ring kept) ro (rows-are width kept is)

      others-rows : All (IsRow ring width) (rows_of ring (insert (map (cleared ring r) kept) at r))
      others-rows = rows-are width (insert (map (cleared ring r) kept) at r) after

      kept-in : (v : List R) → IsCombination ring width (rows_of ring kept) v
          → IsCombination ring width (old ∷ rows_of ring kept) v
      kept-in v c = span-more laws width old (rows_of ring kept) v ro kept-rows c

      row-in : IsCombination ring width (old ∷ rows_of ring kept) row
      row-in = subst (IsCombination ring width (old ∷ rows_of ring kept)) (sym by.differs.2)
          (span-plus laws width (old ∷ rows_of ring kept) before-rows old by.differs.0 (span-member laws width (old ∷ rows_of ring kept) old before-rows (Contains-here old (rows_of ring kept))) (kept-in by.differs.0 by.differs.1))

      r-in : IsCombination ring width (old ∷ rows_of ring kept) r.entries
      r-in = subst (IsCombination ring width (old ∷ rows_of ring kept)) (sym by.multiple.2) (span-scale laws width (old ∷ rows_of ring kept) before-rows by.multiple.0 row by.multiple.1 row-in)

      member-in : (p : PivotRow R) → Contains kept p → IsCombination ring width (rows_of ring kept) p.entries
      member-in p c = span-member laws width (rows_of ring kept) p.entries kept-rows (Contains-map (λ (q : PivotRow R). q.entries) kept p c)

      factor : (p : PivotRow R) → Contains kept p → ring.IsValue (ring.neg (entry ring p.entries r.column))
      factor p c = laws.neg_value _ (entry-value laws width p.entries r.column new.pivot.inside (is.each p c).row)

      cleared-in : (p : PivotRow R) → Contains kept p
          → IsCombination ring width (old ∷ rows_of ring kept) (cleared_row ring r p.entries)
      cleared-in p c = span-plus laws width (old ∷ rows_of ring kept) before-rows p.entries _ (kept-in p.entries (member-in p c)) (span-scale laws width (old ∷ rows_of ring kept) before-rows _ r.entries (factor p c) r-in)

      one-in : (p : PivotRow R) → (r ≡ p) ⊎ Contains (map (cleared ring r) kept) p
          → IsCombination ring width (old ∷ rows_of ring kept) p.entries
      one-in p (inl e) = subst (λ (s : PivotRow R). IsCombination ring width (old ∷ rows_of ring kept) s.entries) e r-in
      one-in p (inr c) = let w = map-Contains (cleared ring r) kept p c in subst (λ (s : PivotRow R). IsCombination ring width (old ∷ rows_of ring kept) s.entries) w.2 (cleared-in w.0 w.1)

      others-in : (b : List R) → Contains (rows_of ring (insert (map (cleared ring r) kept) at r)) b
          → IsCombination ring width (old ∷ rows_of ring kept) b
      others-in b c =
          let w = map-Contains (λ (p : PivotRow R). p.entries) (insert (map (cleared ring r) kept) at r) b c in
          subst (IsCombination ring width (old ∷ rows_of ring kept)) w.2 (one-in w.0 (insert-cases (map (cleared ring r) kept) at r w.0 w.1))

      new-member : (p : PivotRow R) → Contains (insert (map (cleared ring r) kept) at r) p
          → IsCombination ring width (rows_of ring (insert (map (cleared ring r) kept) at r)) p.entries
      new-member p c = span-member laws width others p.entries others-rows (Contains-map (λ (q : PivotRow R). q.entries) (insert (map (cleared ring r) kept) at r) p c)

      r-back : IsCombination ring width (rows_of ring (insert (map (cleared ring r) kept) at r)) r.entries
      r-back = new-member r (insert-here (map (cleared ring r) kept) at r)

      kept-back : (p : PivotRow R) → Contains kept p
          → IsCombination ring width (rows_of ring (insert (map (cleared ring r) kept) at r)) p.entries
      kept-back p c =
          let u = ring.neg (entry ring p.entries r.column) in
          let sum = span-plus laws width others others-rows (cleared_row ring r p.entries) (row_scale ring (ring.neg u) r.entries)
          (new-member (cleared ring r p) (insert-others (map (cleared ring r) kept) at r (cleared ring r p) (Contains-map (cleared ring r) kept p c)))
          (span-scale laws width others others-rows (ring.neg u) r.entries (laws.neg_value u (factor p c)) r-back) in
          subst (IsCombination ring width (rows_of ring (insert (map (cleared ring r) kept) at r))) (plus-undo laws width u p.entries r.entries (factor p c) (is.each p c).row new.pivot.row) sum

      span-back : (v : List R) → IsCombination ring width (rows_of ring kept) v
          → IsCombination ring width (rows_of ring (insert (map (cleared ring r) kept) at r)) v
      span-back v c = span-least laws width others (rows_of ring kept) v others-rows (λ b m. (let w = map-Contains (λ (p : PivotRow R). p.entries) kept b m in subst (IsCombination ring width (rows_of ring (insert (map (cleared ring r) kept) at r))) w.2 (kept-back w.0 w.1))) c

      row-back : IsCombination ring width (rows_of ring (insert (map (cleared ring r) kept) at r)) row
      row-back = subst (IsCombination ring width (rows_of ring (insert (map (cleared ring r) kept) at r))) (sym by.back.2) (span-scale laws width others others-rows by.back.0 r.entries by.back.1 r-back)

      old-in : (a : List R) → (old ≡ a) ⊎ Contains (rows_of ring kept) a
          → IsCombination ring width (rows_of ring (insert (map (cleared ring r) kept) at r)) a
      old-in a (inr c) = span-back a (span-member laws width (rows_of ring kept) a kept-rows c)
      old-in a (inl e) =
          let v = by.differs.0 in
          let rv = combination-row laws width (rows_of ring kept) v kept-rows by.differs.1 in
          let n = ring.neg ring.one in
          let whole : row ≡ row_plus ring old (row_scale ring ring.one v) = by.differs.2 ∙ ap (row_plus ring old) (sym (scale-one laws width v rv)) in
          let sum = span-plus laws width others others-rows row (row_scale ring n v) row-back (span-scale laws width others others-rows n v (laws.neg_value _ laws.one_value) (span-back v by.differs.1)) in
          subst (IsCombination ring width (rows_of ring (insert (map (cleared ring r) kept) at r))) (ap (λ s. row_plus ring s (row_scale ring n v)) whole ∙ plus-undo laws width ring.one old v laws.one_value ro rv ∙ e) sum

  -- a row that is reduced to nothing is a combination of the kept rows
  pub span-nothing : (width : ℕ) (kept : List (PivotRow R)) (old : List R) → IsReduced ring width kept
      → IsRow ring width old → DiffersBySpan width kept old (zero_row ring width)
      → HaveSameSpan ring width (old ∷ rows_of ring kept) (rows_of ring kept)
  span-nothing width kept old is ro d =
      same_span-from laws width (old ∷ rows_of ring kept) (rows_of ring kept) before-rows kept-rows
      (λ b c. span-more laws width old (rows_of ring kept) b ro kept-rows (span-member laws width (rows_of ring kept) b kept-rows c))
      (λ a c. old-in a (Contains-cases old (rows_of ring kept) a c))
    where
      kept-rows : All (IsRow ring width) (rows_of ring kept)
      kept-rows = rows-are width kept is

      before-rows : All (IsRow ring width) (old ∷ rows_of ring kept)
      before-rows = All-cons (IsRow ring width) old (rows_of ring kept) ro (rows-are width kept is)

      old-in : (a : List R) → (old ≡ a) ⊎ Contains (rows_of ring kept) a
          → IsCombination ring width (rows_of ring kept) a
      old-in a (inr c) = span-member laws width (rows_of ring kept) a kept-rows c
      old-in a (inl e) =
          let v = d.0 in
          let rv = combination-row laws width (rows_of ring kept) v kept-rows d.1 in
          let n = ring.neg ring.one in
          let whole : zero_row ring width ≡ row_plus ring old (row_scale ring ring.one v) = d.2 ∙ ap (row_plus ring old) (sym (scale-one laws width v rv)) in
          let sum = span-plus laws width (rows_of ring kept) kept-rows (zero_row ring width) (row_scale ring n v) (span-zero laws width (rows_of ring kept) kept-rows)
          (span-scale laws width (rows_of ring kept) kept-rows n v (laws.neg_value _ laws.one_value) d.1) in
          subst (IsCombination ring width (rows_of ring kept)) (ap (λ s. row_plus ring s (row_scale ring n v)) whole ∙ plus-undo laws width ring.one old v laws.one_value ro rv ∙ e) sum

  -- one row more in front and one row more at the end
  pub span-read : (width : ℕ) (rows : List (List R)) (row : List R) (kept more : List (PivotRow R))
      → All (IsRow ring width) rows → IsRow ring width row → IsReduced ring width kept → IsReduced ring width more
      → HaveSameSpan ring width rows (rows_of ring kept)
      → HaveSameSpan ring width (row ∷ rows_of ring kept) (rows_of ring more)
      → HaveSameSpan ring width (row ∷ rows) (rows_of ring more)
  span-read width rows row kept more are r is after same step v = (
    λ c. (step v).0 (span-least laws width (row ∷ rows_of ring kept) (row ∷ rows) v kept-rows (λ b m. into b (Contains-cases row rows b m)) c),
    λ c. span-least laws width (row ∷ rows) (row ∷ rows_of ring kept) v all-rows (λ b m. back b (Contains-cases row (rows_of ring kept) b m)) ((step v).1 c),
  )
    where
      kept-rows : All (IsRow ring width) (row ∷ rows_of ring kept)
      kept-rows = All-cons (IsRow ring width) row (rows_of ring kept) r (rows-are width kept is)

      all-rows : All (IsRow ring width) (row ∷ rows)
      all-rows = All-cons (IsRow ring width) row rows r are

      into : (b : List R) → (row ≡ b) ⊎ Contains rows b → IsCombination ring width (row ∷ rows_of ring kept) b
      into b (inl e) = span-member laws width (row ∷ rows_of ring kept) b kept-rows (subst (λ z. Contains (z ∷ rows_of ring kept) b) (sym e) (Contains-here b (rows_of ring kept)))
      into b (inr c) = span-more laws width row (rows_of ring kept) b r (rows-are width kept is) ((same b).0 (span-member laws width rows b are c))

      back : (b : List R) → (row ≡ b) ⊎ Contains (rows_of ring kept) b → IsCombination ring width (row ∷ rows) b
      back b (inl e) = span-member laws width (row ∷ rows) b all-rows (subst (λ z. Contains (z ∷ rows) b) (sym e) (Contains-here b rows))
      back b (inr c) = span-more laws width row rows b r are ((same b).1 (span-member laws width (rows_of ring kept) b (rows-are width kept is) c))

  -- the span after an insertion, of a list that was made by it
  pub span-inserted : (width : ℕ) (kept : List (PivotRow R)) (old row : List R) (r : PivotRow R) (at : ℕ)
      → IsReduced ring width kept → IsRow ring width old → IsNewPivot width kept r → IsFromRow width kept old row r
      → (all : List (PivotRow R)) → all ≡ insert (map (cleared ring r) kept) at r → IsReduced ring width all
      → HaveSameSpan ring width (old ∷ rows_of ring kept) (rows_of ring all)
  span-inserted width kept old row r at is ro new by all whole after =
      subst (λ xs. HaveSameSpan ring width (old ∷ rows_of ring kept) (rows_of ring xs)) (sym whole)
      (span-insert width kept old row r at is ro new (subst (IsReduced ring width) whole after) by)

module _ {R : Type 0} {ring : RingOf R} {inverse : R → R} (field : IsField ring inverse) where
  -- the multiple of a row whose first entry other than zero is 1
  pub scaled-pivot : (width column : ℕ) (row : List R) → IsRow ring width row → column < width
      → entry ring row column ≢ ring.zero → ((k : ℕ) → k < column → entry ring row k ≡ ring.zero)
      → IsPivotRow ring width record { column = column; entries = row_scale ring (inverse (entry ring row column)) row }
  scaled-pivot width column row r inside nonzero first =
      let L = field.is_ring in
      let v = entry-value L width row column inside r in
      let vi = field.inverse_value _ v nonzero in
      record {
        row = scale-row L width _ row vi r;
        inside = inside;
        first = λ j h. entry-scale L width _ row j (omega arith) r ∙ ap (ring.mul _) (first j h) ∙ mul_zero L _ vi;
        one = entry-scale L width _ row column inside r ∙ field.commutes _ _ vi v ∙ field.mul_inverse _ v nonzero;
      }

  pub scaled-back : (width column : ℕ) (row : List R) → IsRow ring width row → column < width
      → entry ring row column ≢ ring.zero
      → row ≡ row_scale ring (entry ring row column) (row_scale ring (inverse (entry ring row column)) row)
  scaled-back width column row r inside nonzero =
      let L = field.is_ring in
      let v = entry-value L width row column inside r in
      let vi = field.inverse_value _ v nonzero in
      sym (scale-scale L width _ _ row v vi r ∙ ap (λ s. row_scale ring s row) (field.mul_inverse _ v nonzero) ∙ scale-one L width row r)

  -- what a row gives that is reduced and made monic
  pub monic-new : (width : ℕ) (kept : List (PivotRow R)) (old row : List R) (r : PivotRow R) → IsReduced ring width kept
      → IsReductionOf ring width kept old row → IsMonic ring inverse row r → IsNewPivot field.is_ring width kept r
  monic-new width kept old row r is of monic =
      let L = field.is_ring in
      let inside : r.column < width = subst (λ n. r.column < n) of.is_row.0 monic.inside in
      let made = scaled-pivot width r.column row of.is_row inside monic.nonzero monic.first in
      let v = entry-value L width row r.column inside of.is_row in
      let vi = field.inverse_value _ v monic.nonzero in
      record {
        pivot = record {
          row = subst (IsRow ring width) (sym monic.entries) made.row;
          inside = inside;
          first = λ j h. ap (λ (e : List R). entry ring e j) monic.entries ∙ made.first j h;
          one = ap (λ (e : List R). entry ring e r.column) monic.entries ∙ made.one;
        };
        zeros = λ p c. ap (λ (e : List R). entry ring e p.column) monic.entries ∙ entry-scale L width _ row p.column (is.each p c).inside of.is_row ∙ ap (ring.mul _) (of.zeros p c) ∙ mul_zero L _ vi;
      }

  pub monic-from : (width : ℕ) (kept : List (PivotRow R)) (old row : List R) (r : PivotRow R)
      → IsReductionOf ring width kept old row → IsMonic ring inverse row r
      → IsFromRow field.is_ring width kept old row r
  monic-from width kept old row r of monic =
      let L = field.is_ring in
      let inside : r.column < width = subst (λ n. r.column < n) of.is_row.0 monic.inside in
      let v = entry-value L width row r.column inside of.is_row in
      record {
        differs = of.same;
        multiple = (inverse (entry ring row r.column), field.inverse_value _ v monic.nonzero, monic.entries);
        back = (entry ring row r.column, v, scaled-back width r.column row of.is_row inside monic.nonzero ∙ ap (row_scale ring (entry ring row r.column)) (sym monic.entries));
      }

  -- what such a row gives where the kept rows were lent
  pub monic-lent : (kept lent : List (PivotRow R)) (old row : List R) (r : PivotRow R) → lent ≡ kept
      → IsReduced ring (length old) kept → IsReductionOf ring (length old) lent old row → IsMonic ring inverse row r
      → IsNewPivot field.is_ring (length old) kept r × IsFromRow field.is_ring (length old) kept old row r
  monic-lent kept lent old row r same is of monic =
      let here : IsReductionOf ring (length old) kept old row = subst (λ ks. IsReductionOf ring (length old) ks old row) same of in
      (monic-new (length old) kept old row r is here monic, monic-from (length old) kept old row r here monic)
