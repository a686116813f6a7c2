-- Every list of rows has a reduced form with the same span, so every matrix has a rank r, and its kernel has the dimension columns - r.
use Rattle.std.proofs.Common.{◌≡◌, ◌≢◌, ◌⊎◌, ℕ, zero, suc, ◌+◌, ◌-◌, ◌<◌, ◌≤◌, Bool, true, false, List, [], ◌∷◌, ◌++◌, map, length, All, Contains, get_or, refl, sym, ap, subst, ◌∙◌, arith, inl, inr}
use Rattle.std.specs.Prelude.{slice_set, ◌↔◌, ◌^◌}
use Rattle.std.specs.List.{insert}
use Rattle.std.proofs.lemmas.Bool.{cases_eq, cases_lt, false≢true}
use Rattle.std.proofs.lemmas.List.{length-map, length-append, length-set, get_or_default, get_or-set_same, get_or-set_other}
use Rattle.std.proofs.lemmas.List.Elements.{All-head, All-tail, All-set, Contains-get_or}
use Rattle.hp_algebra.specs.Ring.{RingOf, IsRing, IsField, Numbering, IsNumbering}
use Rattle.hp_algebra.specs.Rows.{IsRow, entry, zero_row, row_scale}
use Rattle.hp_linear.specs.Spaces.{HaveSameSpan, HasDimension}
use Rattle.hp_lists.specs.Lists.{ListsOnce}
use Rattle.hp_linear.specs.Matrices.{Matrix, IsMatrix, IsRank, IsKernelMember}
use Rattle.hp_linear.specs.Echelon.{PivotRow, IsReduced, IsReductionOf, IsMonic, rows_of, cleared, cleared_row}
use Rattle.hp_lists.proofs.Members.{Contains-none}
use Rattle.hp_linear.proofs.PointCounts.{kernel-count}
use Rattle.hp_algebra.proofs.Rows.{zero_row-ext, zeros-row, entry-value, entry-zeros}
use Rattle.hp_linear.proofs.Reduction.{DiffersBySpan, cleared-row, differs-not, differs-more, zeros-more, reduced-insert, span-insert, span-nothing, span-read, monic-new, monic-from}
use Rattle.hp_linear.proofs.Dimension.{rank-unique}
use Rattle.hp_linear.proofs.Units.{reduced-rank}
use Rattle.hp_linear.proofs.Kernels.{IsFreePart, free-more, free-last, AreFreeSolutions, solutions-none, solutions-same, solutions-more, find_pivot, pivots_below, pivots-start, pivots-none, pivots-one, pivots-all, columns-rise, kernel-basis}

module _ {R : Type 0} {ring : RingOf R} (laws : IsRing ring) where
  -- a row after the first k rows were used to clear it
  record IsClearedUpTo (width : ℕ) (kept : List (PivotRow R)) (old : List R) (k : ℕ) (row : List R) : Type 0 where
    pub is_row : IsRow ring width row
    pub same : DiffersBySpan laws width kept old row
    pub zeros : (h : ℕ) (q : PivotRow R) → h < k → entry ring row (get_or kept h q).column ≡ ring.zero

  cleared_up_to : (width k : ℕ) (kept : List (PivotRow R)) (old : List R) → IsReduced ring width kept
      → IsRow ring width old → k ≤ length kept → (row : List R) × IsClearedUpTo width kept old k row
  cleared_up_to width zero kept old is r low = (old, record { is_row = r; same = differs-not laws width kept old is r; zeros = λ h q l. absurd (omega arith) })
  cleared_up_to width (suc k) kept old is r low =
      let before = cleared_up_to width k kept old is r (omega arith) in
      step before kept refl
    where
      step : (row : List R) × IsClearedUpTo width kept old k row → (others : List (PivotRow R)) → others ≡ kept
          → (row : List R) × IsClearedUpTo width kept old (suc k) row
      step before [] e = absurd (omega (arith, low, ap (λ (xs : List (PivotRow R)). length xs) e))
      step before (d ∷ others) e =
          let p : PivotRow R = get_or kept k d in
          let inside : k < length kept = omega arith in
          let in_kept = Contains-get_or kept k d inside in
          let b = before.1 in (
            cleared_row ring p before.0,
            record {
              is_row = cleared-row laws width p before.0 (is.each p in_kept) b.is_row;
              same = differs-more laws width kept old before.0 p is r b.is_row in_kept b.same;
              zeros = λ h q l. zeros-more laws width kept before.0 k p is b.is_row inside (get_or_default kept k d p inside) b.zeros h q (omega arith);
            },
          )

  pub reduction : (width : ℕ) (kept : List (PivotRow R)) (old : List R) → IsReduced ring width kept
      → IsRow ring width old → (row : List R) × IsReductionOf ring width kept old row
  reduction width kept old is r =
      let w = cleared_up_to width (length kept) kept old is r (omega arith) in (
        w.0,
        record {
          is_row = w.1.is_row;
          same = w.1.same;
          zeros = λ p i. subst (λ (q : PivotRow R). entry ring w.0 q.column ≡ ring.zero) i.2 (w.1.zeros i.0 p i.1);
        },
      )

  -- the place of the first entry that is not zero
  abbrev IsFirstEntry : ℕ → List R → ℕ → Type 0
  IsFirstEntry width row j = (j < width) × (entry ring row j ≢ ring.zero) × ((i : ℕ) → i < j → entry ring row i ≡ ring.zero)

  first_entry : (width : ℕ) (row : List R) → IsRow ring width row → (k : ℕ) → k ≤ width
      → ((j : ℕ) × IsFirstEntry width row j) ⊎ ((i : ℕ) → i < k → entry ring row i ≡ ring.zero)
  first_entry width row r zero low = inr (λ i l. absurd (omega arith))
  first_entry width row r (suc k) low = elim (first_entry width row r k (omega arith)) [ inl w ↦ inl w | inr zeros ↦ step zeros (ring.is_zero (entry ring row k)) refl ]
    where
      test : (ring.is_zero (entry ring row k) ≡ true) ↔ (entry ring row k ≡ ring.zero)
      test = laws.zero_test _ (entry-value laws width row k (omega arith) r)

      step : ((i : ℕ) → i < k → entry ring row i ≡ ring.zero) → (b : Bool) → ring.is_zero (entry ring row k) ≡ b
          → ((j : ℕ) × IsFirstEntry width row j) ⊎ ((i : ℕ) → i < suc k → entry ring row i ≡ ring.zero)
      step zeros true e = inr (λ i l. elim (cases_eq i k) [ inl q ↦ ap (entry ring row) q ∙ test.0 e | inr ne ↦ zeros i (omega arith) ])
      step zeros false e = inl (k, (omega arith, (λ z. false≢true (sym e ∙ test.1 z)), zeros))

  -- how many rows at the front have a pivot before the column
  placed : (xs : List (PivotRow R)) (column : ℕ) → (at : ℕ) × (at ≤ length xs)
      × ((k : ℕ) (p : PivotRow R) → k < at → (get_or xs k p).column < column)
      × ((p : PivotRow R) → at < length xs → column ≤ (get_or xs at p).column)
  placed [] column = (0, omega arith, (λ k p l. absurd (omega arith)), (λ p l. absurd (omega arith)))
  placed (x ∷ xs) column = elim (cases_lt x.column column) [
    | inl l ↦ (let r = placed xs column in (suc r.0, omega (arith, r.1), (λ k p m. earlier l r.0 r.2 k p m), (λ p m. r.3 p (omega arith))))
    | inr h ↦ (0, omega arith, (λ k p l. absurd (omega arith)), (λ p l. h))
  ]
    where
      earlier : x.column < column → (at : ℕ) → ((k : ℕ) (p : PivotRow R) → k < at → (get_or xs k p).column < column)
          → (k : ℕ) (p : PivotRow R) → k < suc at → (get_or (x ∷ xs) k p).column < column
      earlier l at h zero p m = l
      earlier l at h (suc k) p m = h k p (omega arith)

  -- ---- solutions

  pub free_up_to : (width free : ℕ) (kept : List (PivotRow R)) → IsReduced ring width kept → free < width
      → ((p : PivotRow R) → Contains kept p → p.column ≢ free) → (k : ℕ) → k ≤ length kept
      → (c : List R) × IsFreePart laws width kept free k c
  free_up_to width free kept is l apart zero low = (
    slice_set (zero_row ring width) free ring.one,
    record {
      is_row = (length-set (zero_row ring width) free ring.one ∙ (zeros-row laws width).0, All-set ring.IsValue (zero_row ring width) free ring.one laws.one_value (zeros-row laws width).1);
      one = get_or-set_same (zero_row ring width) free ring.one ring.zero (subst (λ n. free < n) (sym (zeros-row laws width).0) l);
      at_pivots = λ h d m. absurd (omega arith);
      elsewhere = λ j m ne none. get_or-set_other (zero_row ring width) free j ring.one ring.zero ne ∙ entry-zeros laws width j m;
    },
  )
  free_up_to width free kept is l apart (suc k) low = step (free_up_to width free kept is l apart k (omega arith)) kept refl
    where
      step : (c : List R) × IsFreePart laws width kept free k c → (others : List (PivotRow R)) → others ≡ kept
          → (c : List R) × IsFreePart laws width kept free (suc k) c
      step before [] e = absurd (omega (arith, low, ap (λ (xs : List (PivotRow R)). length xs) e))
      step before (d ∷ others) e =
          let p : PivotRow R = get_or kept k d in
          let inside : k < length kept = omega arith in
          let in_kept = Contains-get_or kept k d inside in
          let next : k + 1 ≡ suc k = omega arith in
          let v = ring.neg (entry ring p.entries free) in
          let c = slice_set before.0 p.column v in (
            c,
            subst (λ n. IsFreePart laws width kept free n c) next
                (free-more laws width free k kept before.0 p v is inside (get_or_default kept k d p inside) (apart p in_kept) (laws.neg_value _ (entry-value laws width p.entries free l (is.each p in_kept).row)) refl before.1),
          )

  solutions_up_to : (width : ℕ) (kept : List (PivotRow R)) → IsReduced ring width kept → (k : ℕ) → k ≤ width
      → (made : List (PivotRow R)) × AreFreeSolutions laws width kept k made
      × (length made + pivots_below laws k kept ≡ k)
  solutions_up_to width kept is zero low = ([], solutions-none laws width kept, ap (λ n. 0 + n) (pivots-start laws kept))
  solutions_up_to width kept is (suc k) low = step (solutions_up_to width kept is k (omega arith)) (find_pivot laws kept k)
    where
      next : k + 1 ≡ suc k
      next = omega arith

      step : (made : List (PivotRow R)) × AreFreeSolutions laws width kept k made
          × (length made + pivots_below laws k kept ≡ k)
          → ((p : PivotRow R) × Contains kept p × (p.column ≡ k)) ⊎ ((p : PivotRow R) → Contains kept p → p.column ≢ k)
          → (made : List (PivotRow R)) × AreFreeSolutions laws width kept (suc k) made
          × (length made + pivots_below laws (suc k) kept ≡ suc k)
      step (made, all, count) (inl w) =
          let one : pivots_below laws (suc k) kept ≡ suc (pivots_below laws k kept) = subst (λ n. pivots_below laws n kept ≡ suc (pivots_below laws k kept)) next (pivots-one laws k kept w.0 (columns-rise laws width kept is) w.1 w.2) in
          (made, subst (λ n. AreFreeSolutions laws width kept n made) next (solutions-same laws width k kept made w all), omega (arith, count, one))
      step (made, all, count) (inr none) =
          let part = free_up_to width k kept is (omega arith) none (length kept) (omega arith) in
          let more : List (PivotRow R) = made ++ record { column = k; entries = part.0 } ∷ [] in
          let same : pivots_below laws (suc k) kept ≡ pivots_below laws k kept = subst (λ n. pivots_below laws n kept ≡ pivots_below laws k kept) next (pivots-none laws k kept none) in
          let long : length more ≡ length made + 1 = length-append made (record { column = k; entries = part.0 } ∷ []) in (
            more,
            subst (λ n. AreFreeSolutions laws width kept n more) next (solutions-more laws width k kept made part.0 none (free-last laws width k kept part.0 part.1) all),
            omega (arith, count, same, long),
          )

module _ {R : Type 0} {ring : RingOf R} {inverse : R → R} (field : IsField ring inverse) where
  -- a row more
  reduced-more : (width : ℕ) (kept : List (PivotRow R)) (old : List R) → IsReduced ring width kept
      → IsRow ring width old
      → (more : List (PivotRow R)) × IsReduced ring width more
      × HaveSameSpan ring width (old ∷ rows_of ring kept) (rows_of ring more)
  reduced-more width kept old is r = step (reduction field.is_ring width kept old is r)
    where
      L : IsRing ring
      L = field.is_ring

      step : (row : List R) × IsReductionOf ring width kept old row
          → (more : List (PivotRow R)) × IsReduced ring width more
          × HaveSameSpan ring width (old ∷ rows_of ring kept) (rows_of ring more)
      step (row, of) = elim (first_entry L width row of.is_row width (omega arith)) [
        | inr zeros ↦ (kept, is, span-nothing L width kept old is r (subst (DiffersBySpan L width kept old) (zero_row-ext L width row of.is_row.0 zeros) of.same))
        | inl w ↦ (
            let p : PivotRow R = record { column = w.0; entries = row_scale ring (inverse (entry ring row w.0)) row } in
            let monic : IsMonic ring inverse row p = record { inside = subst (λ n. w.0 < n) (sym of.is_row.0) w.1.0; nonzero = w.1.1; first = w.1.2; entries = refl } in
            let new = monic-new field width kept old row p is of monic in
            let spot = placed L (map (cleared ring p) kept) p.column in
            let many : length (map (cleared ring p) kept) ≡ length kept = length-map kept (cleared ring p) in
            let after = reduced-insert L width kept p spot.0 field.one_zero is new (subst (λ n. spot.0 ≤ n) many spot.1) spot.2 (λ q l. spot.3 q (subst (λ n. spot.0 < n) (sym many) l)) in
            (insert (map (cleared ring p) kept) spot.0 p, after, span-insert L width kept old row p spot.0 is r new after (monic-from field width kept old row p of monic)))
      ]

  -- Rows have a reduced form with the same span.
  pub reduced-exists : (width : ℕ) (rows : List (List R)) → All (IsRow ring width) rows
      → (kept : List (PivotRow R)) × IsReduced ring width kept × HaveSameSpan ring width rows (rows_of ring kept)
  reduced-exists width [] are = ([], record { each = λ p c. absurd (Contains-none p c); ordered = tt }, λ v. ((λ c. c), (λ c. c)))
  reduced-exists width (row ∷ rows) are =
      let r = All-head (IsRow ring width) row rows are in
      let rest = All-tail (IsRow ring width) row rows are in
      let before = reduced-exists width rows rest in
      let more = reduced-more width before.0 row before.1 r in
      (more.0, more.1, span-read field.is_ring width rows row before.0 more.0 rest r before.1 more.1 before.2 more.2)

  module _ (m : Matrix R) (are : IsMatrix ring m) where
    -- Every matrix has a rank.
    pub rank-exists : (r : ℕ) × IsRank ring m r
    rank-exists = let w = reduced-exists m.cols m.rows are in (length w.0, reduced-rank field.is_ring m w.0 w.1 w.2)

    -- The kernel has the dimension columns - rank.
    pub kernel-dimension : (r : ℕ) → IsRank ring m r → HasDimension ring m.cols (IsKernelMember ring m) (m.cols - r)
    kernel-dimension r is =
        let L = field.is_ring in
        let w = reduced-exists m.cols m.rows are in
        let s = solutions_up_to L m.cols w.0 w.1 m.cols (omega arith) in
        let rank : r ≡ length w.0 = rank-unique field m r (length w.0) are is (reduced-rank L m w.0 w.1 w.2) in
        let pivots : pivots_below L m.cols w.0 ≡ length w.0 = pivots-all L m.cols w.0 (λ p i. (w.1.each p i).inside) in
        let long : length (rows_of ring s.0) ≡ length s.0 = length-map s.0 (λ (p : PivotRow R). p.entries) in
        (rows_of ring s.0, kernel-basis L field.commutes m w.0 s.0 are w.1 w.2 s.1, omega (arith, rank, pivots, long, s.2))

    -- The kernel over a field of q elements has q^(columns - rank) points, counted by any list that has each once.
    pub kernel-points : (numbers : Numbering R) → IsNumbering ring numbers → (r : ℕ) (points : List (List R))
        → IsRank ring m r → ListsOnce (IsKernelMember ring m) points → length points ≡ numbers.order ^ (m.cols - r)
    kernel-points numbers numbered r points is lists =
        let basis = kernel-dimension r is in
        kernel-count (record { ring = ring; inverse = inverse; numbers = numbers; field = field; num = numbered }) m basis.0 points are basis.1 lists ∙ ap (λ n. numbers.order ^ n) basis.2
