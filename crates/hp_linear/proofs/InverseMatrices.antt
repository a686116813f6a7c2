-- Inverses by the matrix with the identity at its side.
use Rattle.std.proofs.Common.{◌≡◌, ◌≢◌, ◌⊎◌, ℕ, zero, suc, ◌+◌, ◌-◌, ◌<◌, ◌≤◌, List, [], ◌∷◌, ◌++◌, map, length, take, drop, All, Contains, get_or, refl, sym, ap, subst, ◌∙◌, arith, inl, inr}
use Rattle.std.proofs.lemmas.Bool.{cases_eq, cases_lt}
use Rattle.std.proofs.lemmas.List.{same_lists, length-map, get_or-map, length-append, map-append, take-append-drop, replicate-append-replicate}
use Rattle.std.proofs.lemmas.List.FromFn.{get_or-map-range_with_len, length-map-range_with_len}
use Rattle.std.proofs.lemmas.List.Elements.{All-nil, All-cons, All-head, All-tail, All-append, All-map, Contains-get_or}
use Rattle.hp_algebra.specs.Ring.{RingOf, IsRing, IsField, dot_of}
use Rattle.hp_lists.specs.Lists.{one_to, Ordered}
use Rattle.hp_algebra.proofs.Rings.{mul_zero, zero_mul}
use Rattle.hp_algebra.specs.Rows.{IsRow, entry, row_plus, row_scale, row_times, unit_row}
use Rattle.hp_linear.specs.Spaces.{IsCombination, HaveSameSpan}
use Rattle.hp_linear.specs.Matrices.{Matrix, IsMatrix, IsInverse, matrix_product, identity_matrix, column, joined}
use Rattle.hp_linear.specs.Echelon.{PivotRow, IsReduced, rows_of}
use Rattle.hp_lists.proofs.Members.{Contains-here, Contains-cases, Contains-none}
use Rattle.hp_algebra.proofs.Rows.{row-ext, entry-value, scale-row}
use Rattle.hp_linear.proofs.Combinations.{times-row, entry-times, span-member, combination-row}
use Rattle.hp_algebra.proofs.UnitRows.{unit-one, unit-zero, unit-row, identity_rows, identity-length, identity-at, identity-are}
use Rattle.hp_algebra.proofs.Dots.{dot-single, dot-none}
use Rattle.hp_linear.proofs.Dimension.{independent-few}
use Rattle.hp_linear.proofs.Reduction.{reduced-rows}
use Rattle.hp_linear.proofs.Units.{reduced-units, in_span-test, at_units, at_units-row, units-independent}
use Rattle.hp_linear.proofs.Kernels.{find_pivot, columns-rise}
use Rattle.hp_linear.proofs.Solutions.{length-joined, get_or-joined}

-- ---- lists

module _ {X : Type 0} where
  take-front : (a b : List X) (n : ℕ) → length a ≡ n → take n (a ++ b) ≡ a
  take-front [] b zero e = refl
  take-front [] b (suc n) e = absurd (omega (arith, e))
  take-front (x ∷ a) b zero e = absurd (omega (arith, e))
  take-front (x ∷ a) b (suc n) e = ap (λ xs. x ∷ xs) (take-front a b n (omega (arith, e)))

  drop-front : (a b : List X) (n : ℕ) → length a ≡ n → drop n (a ++ b) ≡ b
  drop-front [] b zero e = refl
  drop-front [] b (suc n) e = absurd (omega (arith, e))
  drop-front (x ∷ a) b zero e = absurd (omega (arith, e))
  drop-front (x ∷ a) b (suc n) e = drop-front a b n (omega (arith, e))

  get_or-front : (a b : List X) (j : ℕ) (d : X) → j < length a → get_or (a ++ b) j d ≡ get_or a j d
  get_or-front [] b j d l = absurd (omega arith)
  get_or-front (x ∷ a) b zero d l = refl
  get_or-front (x ∷ a) b (suc j) d l = get_or-front a b j d (omega arith)

  get_or-take : (n : ℕ) (xs : List X) (j : ℕ) (d : X) → j < n → get_or (take n xs) j d ≡ get_or xs j d
  get_or-take zero xs j d l = absurd (omega arith)
  get_or-take (suc n) [] j d l = refl
  get_or-take (suc n) (x ∷ xs) zero d l = refl
  get_or-take (suc n) (x ∷ xs) (suc j) d l = get_or-take n xs j d (omega arith)

  length-front : (n m : ℕ) (xs : List X) → length xs ≡ n + m → length (take n xs) ≡ n
  length-front zero m xs e = refl
  length-front (suc n) m [] e = absurd (omega (arith, e))
  length-front (suc n) m (x ∷ xs) e = ap (λ k. suc k) (length-front n m xs (omega (arith, e)))

  length-rest : (n m : ℕ) (xs : List X) → length xs ≡ n + m → length (drop n xs) ≡ m
  length-rest zero m xs e = omega (arith, e)
  length-rest (suc n) m [] e = absurd (omega (arith, e))
  length-rest (suc n) m (x ∷ xs) e = length-rest n m xs (omega (arith, e))

  All-rest : (P : X → Type 0) (n : ℕ) (xs : List X) → All P xs → All P (drop n xs)
  All-rest P zero xs p = p
  All-rest P (suc n) [] p = p
  All-rest P (suc n) (x ∷ xs) p = All-rest P n xs (All-tail P x xs p)

-- rising columns that fill a range
columns-exact : {R : Type 0} (n a : ℕ) (kept : List (PivotRow R)) → Ordered (λ p q. p.column < q.column) kept
    → ((p : PivotRow R) → Contains kept p → a ≤ p.column)
    → ((k : ℕ) → a ≤ k → k < a + n → (p : PivotRow R) × Contains kept p × (p.column ≡ k)) → length kept ≤ n
    → (length kept ≡ n) × ((k : ℕ) (d : PivotRow R) → k < n → (get_or kept k d).column ≡ a + k)
columns-exact zero a kept o low all few = (omega arith, λ k d l. absurd (omega arith))
columns-exact (suc n) a [] o low all few = absurd (Contains-none _ (all a (omega arith) (omega arith)).1)
columns-exact {R} (suc n) a (p ∷ kept) o low all few = step (all a (omega arith) (omega arith)) (columns-exact n (a + 1) kept o.1)
  where
    step : ((q : PivotRow R) × Contains (p ∷ kept) q × (q.column ≡ a))
        → (((q : PivotRow R) → Contains kept q → a + 1 ≤ q.column) → ((k : ℕ) → a + 1 ≤ k → k < (a + 1) + n → (q : PivotRow R) × Contains kept q × (q.column ≡ k)) → length kept ≤ n
        → (length kept ≡ n) × ((k : ℕ) (d : PivotRow R) → k < n → (get_or kept k d).column ≡ (a + 1) + k))
        → (length (p ∷ kept) ≡ suc n) × ((k : ℕ) (d : PivotRow R) → k < suc n → (get_or (p ∷ kept) k d).column ≡ a + k)
    step w ih = (ap (λ m. suc m) rest.0, place)
      where
        first : p.column ≡ a
        first = elim (Contains-cases p kept w.0 w.1) [ inl e ↦ ap (λ (s : PivotRow R). s.column) e ∙ w.2 | inr d ↦ absurd (omega (arith, o.0 w.0 d, w.2, low p (Contains-here p kept))) ]

        others : (k : ℕ) → a + 1 ≤ k → k < (a + 1) + n → (q : PivotRow R) × Contains kept q × (q.column ≡ k)
        others k l m =
            let z = all k (omega arith) (omega arith) in
            elim (Contains-cases p kept z.0 z.1) [ inl e ↦ absurd (omega (arith, first, z.2, ap (λ (s : PivotRow R). s.column) e)) | inr d ↦ (z.0, d, z.2) ]

        rest : (length kept ≡ n) × ((k : ℕ) (d : PivotRow R) → k < n → (get_or kept k d).column ≡ (a + 1) + k)
        rest = ih (λ q c. omega (arith, o.0 q c, first)) others (omega arith)

        place : (k : ℕ) (d : PivotRow R) → k < suc n → (get_or (p ∷ kept) k d).column ≡ a + k
        place zero d l = omega (arith, first)
        place (suc k) d l = omega (arith, rest.1 k d (omega arith))

module _ {R : Type 0} {ring : RingOf R} (laws : IsRing ring) where
  -- a row times the identity is the row
  pub times-identity : (n : ℕ) (cs : List R) → IsRow ring n cs → row_times ring n cs (identity_rows ring n) ≡ cs
  times-identity n cs r =
      row-ext ring n _ cs (times-row laws n cs (identity_rows ring n) r.1 (identity-are laws n)).0 r.0 (λ j l.
      let f = λ (row : List R). entry ring row j in
      let at : (k : ℕ) → k < n → entry ring (map f (identity_rows ring n)) k ≡ entry ring (unit_row ring n (k + 1)) j =
      λ k m. get_or-map f (identity_rows ring n) k [] ring.zero (subst (λ i. k < i) (sym (identity-length ring n)) m) ∙ ap f (identity-at ring n k [] m) in
      let column_row : IsRow ring n (map f (identity_rows ring n)) = (length-map (identity_rows ring n) f ∙ identity-length ring n, All-map ring.IsValue f (identity_rows ring n) (λ k d m. entry-value laws n _ j l (identity-are laws n k d m))) in
      entry-times laws n cs (identity_rows ring n) j l r.1 (identity-are laws n)
      ∙ dot-single laws n cs (map f (identity_rows ring n)) j r column_row l (λ k m ne. ap (ring.mul (entry ring cs k)) (at k m ∙ unit-zero laws n k j l ne) ∙ mul_zero laws _ (entry-value laws n cs k m r))
      ∙ ap (ring.mul (entry ring cs j)) (at j l ∙ unit-one laws n j l) ∙ laws.mul_one _ (entry-value laws n cs j l r))

  -- ---- rows side by side

  plus-append : (a b c d : List R) → length a ≡ length c
      → row_plus ring (a ++ b) (c ++ d) ≡ row_plus ring a c ++ row_plus ring b d
  plus-append [] b [] d e = refl
  plus-append [] b (y ∷ c) d e = absurd (omega (arith, e))
  plus-append (x ∷ a) b [] d e = absurd (omega (arith, e))
  plus-append (x ∷ a) b (y ∷ c) d e = ap (λ s. ring.add x y ∷ s) (plus-append a b c d (omega (arith, e)))

  pub times-joined : (n m : ℕ) (cs : List R) (rows others : List (List R)) → length rows ≡ length others
      → length cs ≡ length rows → All ring.IsValue cs → All (IsRow ring n) rows → All (IsRow ring m) others
      → row_times ring (n + m) cs (joined ring rows others) ≡ row_times ring n cs rows ++ row_times ring m cs others
  times-joined n m [] rows others e f v p q = sym (replicate-append-replicate n m ring.zero)
  times-joined n m (c ∷ cs) [] others e f v p q = absurd (omega (arith, f))
  times-joined n m (c ∷ cs) (a ∷ rows) [] e f v p q = absurd (omega (arith, e))
  times-joined n m (c ∷ cs) (a ∷ rows) (b ∷ others) e f v p q =
      let vc = All-head ring.IsValue c cs v in
      let vt = All-tail ring.IsValue c cs v in
      let ra = All-head (IsRow ring n) a rows p in
      let pt = All-tail (IsRow ring n) a rows p in
      let g = map-append (ring.mul c) a b in
      let h = times-joined n m cs rows others (omega (arith, e)) (omega (arith, f)) vt pt (All-tail (IsRow ring m) b others q) in
      (λ i. row_plus ring (g i) (h i))
      ∙ plus-append (row_scale ring c a) (row_scale ring c b) (row_times ring n cs rows) (row_times ring m cs others) ((scale-row laws n c a vc ra).0 ∙ sym (times-row laws n cs rows vt pt).0)

  pub joined-are : (n m : ℕ) (rows others : List (List R)) → All (IsRow ring n) rows → All (IsRow ring m) others
      → All (IsRow ring (n + m)) (joined ring rows others)
  joined-are n m [] others p q = All-nil (IsRow ring (n + m))
  joined-are n m (a ∷ rows) [] p q = All-nil (IsRow ring (n + m))
  joined-are n m (a ∷ rows) (b ∷ others) p q =
      let ra = All-head (IsRow ring n) a rows p in
      let rb = All-head (IsRow ring m) b others q in
      All-cons (IsRow ring (n + m)) (a ++ b) (joined ring rows others)
      (length-append a b ∙ (λ i. ra.0 i + rb.0 i), All-append ring.IsValue a b ra.1 rb.1)
      (joined-are n m rows others (All-tail (IsRow ring n) a rows p) (All-tail (IsRow ring m) b others q))

  -- ---- products

  -- the entries of a product are those of the combination
  pub product-row : (row : List R) (m : Matrix R) → IsMatrix ring m → IsRow ring (length m.rows) row
      → map (λ c. dot_of ring row (column ring m c)) (one_to m.cols) ≡ row_times ring m.cols row m.rows
  product-row row m are r =
      row-ext ring m.cols _ _ (length-map-range_with_len (λ c. dot_of ring row (column ring m c)) 1 m.cols) (times-row laws m.cols row m.rows r.1 are).0 (λ j l.
      get_or-map-range_with_len (λ c. dot_of ring row (column ring m c)) 1 m.cols j (j + 1) ring.zero l (omega arith)
      ∙ ap (λ i. dot_of ring row (map (λ s. entry ring s i) m.rows)) (back j)
      ∙ sym (entry-times laws m.cols row m.rows j l r.1 are))
    where
      back : (j : ℕ) → j + 1 - 1 ≡ j
      back j = omega arith

  -- a product is the identity exactly where its rows are
  pub product-identity : (a m : Matrix R) (n : ℕ) → IsMatrix ring m → m.cols ≡ n → length m.rows ≡ n → length a.rows ≡ n
      → All (IsRow ring n) a.rows
      → ((k : ℕ) (d : List R) → k < n → row_times ring n (get_or a.rows k d) m.rows ≡ unit_row ring n (k + 1))
      → matrix_product ring a m ≡ identity_matrix ring n
  product-identity a m n are cols many long rows h = λ i. record { cols = cols i; rows = same i }
    where
      f : List R → List R
      f row = map (λ c. dot_of ring row (column ring m c)) (one_to m.cols)

      same : map (λ row. map (λ c. dot_of ring row (column ring m c)) (one_to m.cols)) a.rows
          ≡ map (unit_row ring n) (one_to n)
      same = same_lists _ _ (length-map a.rows f ∙ long ∙ sym (identity-length ring n)) (λ k d l.
          let inside : k < length a.rows = subst (λ i. k < i) (length-map a.rows f) l in
          let below : k < n = subst (λ i. k < i) long inside in
          get_or-map f a.rows k d d inside
          ∙ product-row (get_or a.rows k d) m are (subst (λ i. IsRow ring i (get_or a.rows k d)) (sym many) (rows k d inside))
          ∙ ap (λ w. row_times ring w (get_or a.rows k d) m.rows) cols ∙ h k d below ∙ sym (identity-at ring n k d below))

  pub identity-product : (a m : Matrix R) (n : ℕ) → IsMatrix ring m → m.cols ≡ n → length m.rows ≡ n → length a.rows ≡ n
      → All (IsRow ring n) a.rows → matrix_product ring a m ≡ identity_matrix ring n
      → (k : ℕ) (d : List R) → k < n → row_times ring n (get_or a.rows k d) m.rows ≡ unit_row ring n (k + 1)
  identity-product a m n are cols many long rows e k d below =
      let f = λ (row : List R). map (λ c. dot_of ring row (column ring m c)) (one_to m.cols) in
      let inside : k < length a.rows = subst (λ i. k < i) (sym long) below in
      ap (λ w. row_times ring w (get_or a.rows k d) m.rows) (sym cols)
      ∙ sym (product-row (get_or a.rows k d) m are (subst (λ i. IsRow ring i (get_or a.rows k d)) (sym many) (rows k d inside)))
      ∙ sym (get_or-map f a.rows k d d inside) ∙ ap (λ (p : Matrix R). get_or p.rows k d) e ∙ identity-at ring n k d below

  -- ---- from the reduced rows

  module _ (m : Matrix R) (kept : List (PivotRow R)) (are : IsMatrix ring m) (square : length m.rows ≡ m.cols) (is : IsReduced ring (m.cols + m.cols) kept)
      (same : HaveSameSpan ring (m.cols + m.cols) (joined ring m.rows (identity_rows ring m.cols)) (rows_of ring kept)) where
    abbrev pub right_parts : List (List R)
    right_parts = map (λ p. drop m.cols p.entries) kept

    wide-are : All (IsRow ring (m.cols + m.cols)) (joined ring m.rows (identity_rows ring m.cols))
    wide-are = joined-are m.cols m.cols m.rows (identity_rows ring m.cols) are (identity-are laws m.cols)

    both-long : length m.rows ≡ length (identity_rows ring m.cols)
    both-long = square ∙ sym (identity-length ring m.cols)

    -- a row of coefficients gives a member of the span
    wide-times : (cs : List R) → IsRow ring m.cols cs
        → row_times ring (m.cols + m.cols) cs (joined ring m.rows (identity_rows ring m.cols))
        ≡ row_times ring m.cols cs m.rows ++ cs
    wide-times cs r =
        times-joined m.cols m.cols cs m.rows (identity_rows ring m.cols) both-long (r.0 ∙ sym square) r.1 are (identity-are laws m.cols)
        ∙ ap (λ s. row_times ring m.cols cs m.rows ++ s) (times-identity m.cols cs r)

    module _ (full : length kept ≡ m.cols) (placed : (k : ℕ) (d : PivotRow R) → k < m.cols → (get_or kept k d).column ≡ k) where
      n : ℕ
      n = m.cols

      left-part : (k : ℕ) (d : PivotRow R) → k < m.cols
          → take m.cols (get_or kept k d).entries ≡ unit_row ring m.cols (k + 1)
      left-part k d l =
          let u = reduced-units laws (m.cols + m.cols) kept is in
          let inside : k < length kept = subst (λ i. k < i) (sym full) l in
          let row = (is.each _ (Contains-get_or kept k d inside)).row in
          row-ext ring m.cols _ _ (length-front m.cols m.cols _ row.0) (unit-row laws m.cols (k + 1)).0 (λ j h. get_or-take m.cols _ j ring.zero h ∙ at j h (cases_eq k j))
        where
          at : (j : ℕ) → j < m.cols → (k ≡ j) ⊎ (k ≢ j)
              → entry ring (get_or kept k d).entries j ≡ entry ring (unit_row ring m.cols (k + 1)) j
          at j h (inl e) =
              let u = reduced-units laws (m.cols + m.cols) kept is in
              ap (entry ring (get_or kept k d).entries) (sym (placed k d l ∙ e)) ∙ u.one k d (subst (λ i. k < i) (sym full) l)
              ∙ sym (unit-one laws m.cols k l) ∙ ap (entry ring (unit_row ring m.cols (k + 1))) e
          at j h (inr ne) =
              let u = reduced-units laws (m.cols + m.cols) kept is in
              ap (entry ring (get_or kept k d).entries) (sym (placed j d h)) ∙ u.others k j d (subst (λ i. k < i) (sym full) l) (subst (λ i. j < i) (sym full) h) ne
              ∙ sym (unit-zero laws m.cols k j h ne)

      pub parts-are : All (IsRow ring m.cols) right_parts
      parts-are = All-map (IsRow ring m.cols) (λ (p : PivotRow R). drop m.cols p.entries) kept (λ k d l. (let row = (is.each _ (Contains-get_or kept k d l)).row in (length-rest m.cols m.cols _ row.0, All-rest ring.IsValue m.cols _ row.1)))

      -- the right part of a row has its left part as product with m
      left-product : (k : ℕ) (d : PivotRow R) → k < m.cols
          → row_times ring m.cols (drop m.cols (get_or kept k d).entries) m.rows ≡ unit_row ring m.cols (k + 1)
      left-product k d l =
          let inside : k < length kept = subst (λ i. k < i) (sym full) l in
          let p = get_or kept k d in
          let c = (same p.entries).1 (span-member laws (m.cols + m.cols) (rows_of ring kept) p.entries (reduced-rows laws (m.cols + m.cols) kept is) (entry-member k d inside)) in
          let many : length (joined ring m.rows (identity_rows ring m.cols)) ≡ m.cols = length-joined ring m.rows (identity_rows ring m.cols) both-long ∙ square in
          let cs : IsRow ring m.cols c.0 = (c.1.0 ∙ many, c.1.1) in
          let whole : p.entries ≡ row_times ring m.cols c.0 m.rows ++ c.0 = c.2 ∙ wide-times c.0 cs in
          let front : length (row_times ring m.cols c.0 m.rows) ≡ m.cols = (times-row laws m.cols c.0 m.rows c.1.1 are).0 in
          let right : drop m.cols p.entries ≡ c.0 = ap (drop m.cols) whole ∙ drop-front (row_times ring m.cols c.0 m.rows) c.0 m.cols front in
          ap (λ s. row_times ring m.cols s m.rows) right ∙ sym (ap (take m.cols) whole ∙ take-front (row_times ring m.cols c.0 m.rows) c.0 m.cols front) ∙ left-part k d l
        where
          entry-member : (k : ℕ) (d : PivotRow R) → k < length kept
              → Contains (rows_of ring kept) (get_or kept k d).entries
          entry-member k d l = subst (Contains (rows_of ring kept)) (get_or-map (λ (p : PivotRow R). p.entries) kept k d d.entries l) (Contains-get_or (rows_of ring kept) k d.entries (subst (λ i. k < i) (sym (length-map kept (λ (p : PivotRow R). p.entries))) l))

      -- the rows are the identity and the right parts side by side
      kept-joined : rows_of ring kept ≡ joined ring (identity_rows ring m.cols) right_parts
      kept-joined =
          let long : length (identity_rows ring m.cols) ≡ length right_parts = identity-length ring m.cols ∙ sym (length-map kept (λ (p : PivotRow R). drop m.cols p.entries) ∙ full) in
          same_lists _ _ (length-map kept (λ (p : PivotRow R). p.entries) ∙ full ∙ sym (length-joined ring (identity_rows ring m.cols) right_parts long ∙ identity-length ring m.cols)) (λ k d l.
          let none : PivotRow R = record { column = 0; entries = [] } in
          let inside : k < length kept = subst (λ i. k < i) (length-map kept (λ (p : PivotRow R). p.entries)) l in
          let below : k < m.cols = subst (λ i. k < i) full inside in
          get_or-map (λ (p : PivotRow R). p.entries) kept k none d inside
          ∙ sym (take-append-drop m.cols (get_or kept k none).entries) ∙ ap (λ s. s ++ drop m.cols (get_or kept k none).entries) (left-part k none below)
          ∙ (λ i. sym (identity-at ring m.cols k [] below) i ++ sym (get_or-map (λ (p : PivotRow R). drop m.cols p.entries) kept k none [] inside) i)
          ∙ sym (get_or-joined ring (identity_rows ring m.cols) right_parts k d [] [] long (subst (λ i. k < i) (sym (identity-length ring m.cols)) below)))

      right-product : (k : ℕ) (d : List R) → k < m.cols
          → row_times ring m.cols (get_or m.rows k d) right_parts ≡ unit_row ring m.cols (k + 1)
      right-product k d l =
          let inside : k < length m.rows = subst (λ i. k < i) (sym square) l in
          let a = get_or m.rows k d in
          let ra = are k d inside in
          let e = unit_row ring m.cols (k + 1) in
          let v = a ++ e in
          let at_v : get_or (joined ring m.rows (identity_rows ring m.cols)) k [] ≡ v = get_or-joined ring m.rows (identity_rows ring m.cols) k [] d [] both-long inside ∙ ap (λ s. a ++ s) (identity-at ring m.cols k [] l) in
          let in_wide : k < length (joined ring m.rows (identity_rows ring m.cols)) = subst (λ i. k < i) (sym (length-joined ring m.rows (identity_rows ring m.cols) both-long)) inside in
          let rv : IsRow ring (m.cols + m.cols) v = subst (IsRow ring (m.cols + m.cols)) at_v (wide-are k [] in_wide) in
          let member : IsCombination ring (m.cols + m.cols) (rows_of ring kept) v =
          (same v).0 (span-member laws (m.cols + m.cols) (joined ring m.rows (identity_rows ring m.cols)) v wide-are (subst (Contains (joined ring m.rows (identity_rows ring m.cols))) at_v (Contains-get_or (joined ring m.rows (identity_rows ring m.cols)) k [] in_wide))) in
          let u = reduced-units laws (m.cols + m.cols) kept is in
          let coefficients : at_units laws (m.cols + m.cols) kept u v ≡ a =
          row-ext ring m.cols _ a (length-map kept (λ (p : PivotRow R). entry ring v p.column) ∙ full) ra.0 (λ j h.
          let none : PivotRow R = record { column = 0; entries = [] } in
          get_or-map (λ (p : PivotRow R). entry ring v p.column) kept j none ring.zero (subst (λ i. j < i) (sym full) h) ∙ ap (entry ring v) (placed j none h)
          ∙ get_or-front a e j ring.zero (subst (λ i. j < i) (sym ra.0) h)) in
          let parts_long : length (identity_rows ring m.cols) ≡ length right_parts = identity-length ring m.cols ∙ sym (length-map kept (λ (p : PivotRow R). drop m.cols p.entries) ∙ full) in
          let whole : v ≡ a ++ row_times ring m.cols a right_parts =
          (in_span-test laws (m.cols + m.cols) kept u v rv).0 member ∙ (λ i. row_times ring (m.cols + m.cols) (coefficients i) (kept-joined i))
          ∙ times-joined m.cols m.cols a (identity_rows ring m.cols) right_parts parts_long (ra.0 ∙ sym (identity-length ring m.cols)) ra.1 (identity-are laws m.cols) parts-are
          ∙ ap (λ s. s ++ row_times ring m.cols a right_parts) (times-identity m.cols a ra) in
          sym (drop-front a (row_times ring m.cols a right_parts) m.cols ra.0) ∙ ap (drop m.cols) (sym whole) ∙ drop-front a e m.cols ra.0

      -- The right parts are the inverse.
      pub inverse-from : IsInverse ring m record { cols = m.cols; rows = right_parts }
      inverse-from =
          let long : length right_parts ≡ m.cols = length-map kept (λ (p : PivotRow R). drop m.cols p.entries) ∙ full in
          record {
            matrix = parts-are;
            square = (refl, long ∙ sym square);
            right = product-identity m record { cols = m.cols; rows = right_parts } m.cols parts-are refl long square are right-product;
            left =
                product-identity record { cols = m.cols; rows = right_parts } m m.cols are refl square long parts-are (λ k d l.
                let none : PivotRow R = record { column = 0; entries = [] } in
                ap (λ s. row_times ring m.cols s m.rows) (get_or-map (λ (p : PivotRow R). drop m.cols p.entries) kept k none d (subst (λ i. k < i) (sym full) l)) ∙ left-product k none l);
          }

module _ {R : Type 0} {ring : RingOf R} {inverse : R → R} (field : IsField ring inverse) (m : Matrix R) (kept : List (PivotRow R)) (are : IsMatrix ring m) (square : length m.rows ≡ m.cols)
    (is : IsReduced ring (m.cols + m.cols) kept) (same : HaveSameSpan ring (m.cols + m.cols) (joined ring m.rows (identity_rows ring m.cols)) (rows_of ring kept)) where
  -- With an inverse each of the first columns has a pivot.
  first-pivot : (x : Matrix R) → IsInverse ring m x → (k : ℕ) → k < m.cols
      → (p : PivotRow R) × Contains kept p × (p.column ≡ k)
  first-pivot x inv k l = step (find_pivot field.is_ring kept k)
    where
      step : ((p : PivotRow R) × Contains kept p × (p.column ≡ k)) ⊎ ((p : PivotRow R) → Contains kept p → p.column ≢ k)
          → (p : PivotRow R) × Contains kept p × (p.column ≡ k)
      step (inl w) = w
      step (inr none) =
          let L = field.is_ring in
          let n = m.cols in
          let wide = m.cols + m.cols in
          let rows = joined ring m.rows (identity_rows ring m.cols) in
          let long : length x.rows ≡ m.cols = inv.square.1 ∙ square in
          let x_are : All (IsRow ring m.cols) x.rows = subst (λ i. All (IsRow ring i) x.rows) inv.square.0 inv.matrix in
          let cs = get_or x.rows k [] in
          let rc = x_are k [] (subst (λ i. k < i) (sym long) l) in
          let e = unit_row ring m.cols (k + 1) in
          let v = e ++ cs in
          let times : row_times ring m.cols cs m.rows ≡ e = identity-product L x m m.cols are refl square long x_are inv.left k [] l in
          let both_long : length m.rows ≡ length (identity_rows ring m.cols) = square ∙ sym (identity-length ring m.cols) in
          let whole : v ≡ row_times ring wide cs rows =
          sym (times-joined L m.cols m.cols cs m.rows (identity_rows ring m.cols) both_long (rc.0 ∙ sym square) rc.1 are (identity-are L m.cols)
          ∙ (λ i. times i ++ times-identity L m.cols cs rc i)) in
          let many : length rows ≡ m.cols = length-joined ring m.rows (identity_rows ring m.cols) both_long ∙ square in
          let member : IsCombination ring wide (rows_of ring kept) v = (same v).0 (cs, (rc.0 ∙ sym many, rc.1), whole) in
          let kept_are = reduced-rows L wide kept is in
          let rv = combination-row L wide (rows_of ring kept) v kept_are member in
          let u = reduced-units L wide kept is in
          let ds = at_units L wide kept u v in
          let rd = at_units-row L wide kept u v rv in
          let in_wide : k < wide = omega (arith, l) in
          let f = λ (row : List R). entry ring row k in
          let column_row : IsRow ring (length kept) (map f (rows_of ring kept)) =
          (length-map (rows_of ring kept) f ∙ length-map kept (λ (p : PivotRow R). p.entries), All-map ring.IsValue f (rows_of ring kept) (λ h d i. entry-value L wide _ k in_wide (kept_are h d i))) in
          let nothing : entry ring v k ≡ ring.zero =
          ap (λ s. entry ring s k) ((in_span-test L wide kept u v rv).0 member)
          ∙ entry-times L wide ds (rows_of ring kept) k in_wide rd.1 kept_are
          ∙ dot-none L (length kept) ds (map f (rows_of ring kept)) rd column_row (λ h i. vanish v cs h i rc rd column_row refl) in
          absurd (field.one_zero (sym (get_or-front e cs k ring.zero (subst (λ i. k < i) (sym (unit-row L m.cols (k + 1)).0) l) ∙ unit-one L m.cols k l) ∙ nothing))
        where
          vanish : (v cs : List R) (h : ℕ) → h < length kept → IsRow ring m.cols cs
              → IsRow ring (length kept) (map (λ (p : PivotRow R). entry ring v p.column) kept)
              → IsRow ring (length kept) (map (λ row. entry ring row k) (rows_of ring kept))
              → v ≡ unit_row ring m.cols (k + 1) ++ cs
              → ring.mul (entry ring (map (λ (p : PivotRow R). entry ring v p.column) kept) h) (entry ring (map (λ row. entry ring row k) (rows_of ring kept)) h) ≡ ring.zero
          vanish v cs h i rc rd rk e =
              let d : PivotRow R = record { column = 0; entries = [] } in
              let p = get_or kept h d in
              let first = get_or-map (λ (p : PivotRow R). entry ring v p.column) kept h d ring.zero i in
              let second = get_or-map (λ row. entry ring row k) (rows_of ring kept) h [] ring.zero (subst (λ z. h < z) (sym (length-map kept (λ (p : PivotRow R). p.entries))) i)
              ∙ ap (λ row. entry ring row k) (get_or-map (λ (p : PivotRow R). p.entries) kept h d [] i) in
              sides (cases_lt p.column k) first second
            where
              sides : ((get_or kept h record { column = 0; entries = [] }).column < k)
                  ⊎ (k ≤ (get_or kept h record { column = 0; entries = [] }).column)
                  → entry ring (map (λ (p : PivotRow R). entry ring v p.column) kept) h
                  ≡ entry ring v (get_or kept h record { column = 0; entries = [] }).column
                  → entry ring (map (λ row. entry ring row k) (rows_of ring kept)) h
                  ≡ entry ring (get_or kept h record { column = 0; entries = [] }).entries k
                  → ring.mul (entry ring (map (λ (p : PivotRow R). entry ring v p.column) kept) h) (entry ring (map (λ row. entry ring row k) (rows_of ring kept)) h) ≡ ring.zero
              sides (inl low) first second =
                  let L = field.is_ring in
                  let p = get_or kept h record { column = 0; entries = [] } in
                  let inside : p.column < m.cols = omega (arith, low, l) in
                  let z : entry ring v p.column ≡ ring.zero =
                  ap (λ s. entry ring s p.column) e ∙ get_or-front (unit_row ring m.cols (k + 1)) cs p.column ring.zero (subst (λ z. p.column < z) (sym (unit-row L m.cols (k + 1)).0) inside)
                  ∙ unit-zero L m.cols k p.column inside (λ q. absurd (omega (arith, q, low))) in
                  ap (λ s. ring.mul s (entry ring (map (λ row. entry ring row k) (rows_of ring kept)) h)) (first ∙ z) ∙ zero_mul L _ (entry-value L (length kept) _ h i rk)
              sides (inr high) first second =
                  let L = field.is_ring in
                  let p = get_or kept h record { column = 0; entries = [] } in
                  let c = Contains-get_or kept h record { column = 0; entries = [] } i in
                  let z : entry ring p.entries k ≡ ring.zero = (is.each p c).first k (omega (arith, high, none p c)) in
                  ap (ring.mul (entry ring (map (λ (p : PivotRow R). entry ring v p.column) kept) h)) (second ∙ z) ∙ mul_zero L _ (entry-value L (length kept) _ h i rd)

  -- so the pivots are in the first columns, one in each
  pub inverse-full : (x : Matrix R) → IsInverse ring m x
      → (length kept ≡ m.cols) × ((k : ℕ) (d : PivotRow R) → k < m.cols → (get_or kept k d).column ≡ k)
  inverse-full x inv =
      let L = field.is_ring in
      let wide = m.cols + m.cols in
      let rows = joined ring m.rows (identity_rows ring m.cols) in
      let both_long : length m.rows ≡ length (identity_rows ring m.cols) = square ∙ sym (identity-length ring m.cols) in
      let few : length (rows_of ring kept) ≤ length rows =
      independent-few field wide rows (rows_of ring kept) (joined-are L m.cols m.cols m.rows (identity_rows ring m.cols) are (identity-are L m.cols))
      (λ b c. (same b).1 (span-member L wide (rows_of ring kept) b (reduced-rows L wide kept is) c)) (units-independent L wide kept (reduced-units L wide kept is)) in
      let exact = columns-exact m.cols 0 kept (columns-rise L wide kept is) (λ p c. omega arith) (λ k low high. first-pivot x inv k (omega (arith, high)))
      (omega (arith, few, length-map kept (λ (p : PivotRow R). p.entries), length-joined ring m.rows (identity_rows ring m.cols) both_long, square)) in
      (exact.0, λ k d l. exact.1 k d l ∙ start k)
    where
      start : (k : ℕ) → 0 + k ≡ k
      start k = omega arith
