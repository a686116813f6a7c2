-- The solutions of reduced rows: one for each column without pivot, and together a basis of the kernel.
use Rattle.std.proofs.Common.{◌≡◌, ◌≢◌, ◌⊎◌, ℕ, suc, ◌+◌, ◌<◌, ◌≤◌, cond, List, [], ◌∷◌, ◌++◌, length, Contains, get_or, refl, sym, ap, subst, ◌∙◌, arith, inl, inr}
use Rattle.std.specs.Prelude.{slice_set, nat_lt}
use Rattle.std.specs.Cmp.{both_ways}
use Rattle.std.proofs.lemmas.Bool.{cases_eq, cases_lt, ltb-true, lt-ltb, le-ltb}
use Rattle.std.proofs.lemmas.List.{length-map, get_or-map, get_or_default, get_or-set_same, get_or-set_other, length-set}
use Rattle.std.proofs.lemmas.List.Elements.{All-set, Contains-get_or, Contains-append_left, Contains-append_right, Contains-append_cases}
use Rattle.hp_algebra.specs.Ring.{RingOf, IsRing, IsCommutative, dot_of}
use Rattle.hp_algebra.proofs.Rings.{mul_zero, zero_mul, neg_neg}
use Rattle.hp_algebra.specs.Rows.{IsRow, entry, zero_row, row_plus, row_scale, row_times}
use Rattle.hp_linear.specs.Spaces.{AreCoefficients, IsCombination, HaveSameSpan, IsBasisOf}
use Rattle.hp_linear.specs.Matrices.{Matrix, IsMatrix, IsKernelMember}
use Rattle.hp_linear.specs.Echelon.{PivotRow, IsReduced, IsLeftOf, IsFreeSolution, rows_of}
use Rattle.hp_lists.specs.Lists.{Ordered}
use Rattle.hp_lists.proofs.Members.{Contains-here, Contains-later, Contains-cases, Contains-none, Contains-map, map-Contains, each-All}
use Rattle.hp_lists.proofs.Ordered.{Ordered-at, Ordered-push}
use Rattle.hp_algebra.proofs.Rows.{scale-row, plus-row, entry-value, entry-plus, entry-scale, entry-zeros, zero_row-ext, zeros-plus, plus-undo, scale-one}
use Rattle.hp_linear.proofs.Combinations.{times-row, span-member, span-dot, dot-combination}
use Rattle.hp_algebra.proofs.Dots.{dot-plus, dot-scale, dot-single, dot-pair, dot-comm, map-zeros}
use Rattle.hp_linear.proofs.Reduction.{reduced-rows}
use Rattle.hp_linear.proofs.Units.{HaveUnitColumns, reduced-units, unit-coefficient, units-independent, at_units, at_units-row}

module _ {R : Type 0} {ring : RingOf R} (laws : IsRing ring) where
  -- ---- a free solution, entry by entry

  -- the solution up to the first k rows
  pub record IsFreePart (width : ℕ) (kept : List (PivotRow R)) (free k : ℕ) (c : List R) : Type 0 where
    pub is_row : IsRow ring width c
    pub one : entry ring c free ≡ ring.one
    pub at_pivots : (h : ℕ) (d : PivotRow R) → h < k
        → entry ring c (get_or kept h d).column ≡ ring.neg (entry ring (get_or kept h d).entries free)
    pub elsewhere : (j : ℕ) → j < width → j ≢ free → ((h : ℕ) (d : PivotRow R) → h < k → (get_or kept h d).column ≢ j)
        → entry ring c j ≡ ring.zero

  pub free-more : (width free k : ℕ) (kept : List (PivotRow R)) (c : List R) (p : PivotRow R) (v : R)
      → IsReduced ring width kept → k < length kept → p ≡ get_or kept k p → p.column ≢ free
      → ring.IsValue v → v ≡ ring.neg (entry ring p.entries free) → IsFreePart width kept free k c
      → IsFreePart width kept free (k + 1) (slice_set c p.column v)
  free-more width free k kept c p v is l at apart vv e before = record {
    is_row = (length-set c p.column v ∙ before.is_row.0, All-set ring.IsValue c p.column v vv before.is_row.1);
    one = get_or-set_other c p.column free v ring.zero (λ q. apart (sym q)) ∙ before.one;
    at_pivots = λ h d m. pivots h d m (cases_eq h k);
    elsewhere = λ j m ne none. get_or-set_other c p.column j v ring.zero (λ q. none k p (omega arith) (ap (λ (s : PivotRow R). s.column) (sym at) ∙ sym q)) ∙ before.elsewhere j m ne (λ h d i. none h d (omega arith));
  }
    where
      here : (d : PivotRow R) → p ≡ get_or kept k d
      here d = at ∙ get_or_default kept k p d l

      inside : p.column < length c
      inside = subst (λ n. p.column < n) (sym before.is_row.0) (is.each p (subst (Contains kept) (sym at) (Contains-get_or kept k p l))).inside

      pivots : (h : ℕ) (d : PivotRow R) → h < k + 1 → (h ≡ k) ⊎ (h ≢ k)
          → entry ring (slice_set c p.column v) (get_or kept h d).column
          ≡ ring.neg (entry ring (get_or kept h d).entries free)
      pivots h d m (inl q) =
          subst (λ (s : PivotRow R). entry ring (slice_set c p.column v) s.column ≡ ring.neg (entry ring s.entries free)) (here d ∙ ap (λ n. get_or kept n d) (sym q))
          (get_or-set_same c p.column v ring.zero inside ∙ e)
      pivots h d m (inr ne) =
          let left = Ordered-at (IsLeftOf ring) kept h k d is.ordered (omega arith) l in
          let further : (get_or kept h d).column < p.column = subst (λ (s : PivotRow R). (get_or kept h d).column < s.column) (sym (here d)) left.left in
          get_or-set_other c p.column (get_or kept h d).column v ring.zero (λ q. absurd (omega (arith, q, further))) ∙ before.at_pivots h d (omega arith)

  pub free-last : (width free : ℕ) (kept : List (PivotRow R)) (c : List R) → IsFreePart width kept free (length kept) c
      → IsFreeSolution ring width kept free c
  free-last width free kept c part = record {
    is_row = part.is_row;
    one = part.one;
    at_pivots = λ p i. subst (λ (s : PivotRow R). entry ring c s.column ≡ ring.neg (entry ring s.entries free)) i.2 (part.at_pivots i.0 p i.1);
    elsewhere = λ j l ne none. part.elsewhere j l ne (λ h d m. none (get_or kept h d) (Contains-get_or kept h d m));
  }

  -- ---- it is a solution

  -- either a row has its pivot in the column or none has
  pub find_pivot : (kept : List (PivotRow R)) (j : ℕ)
      → ((p : PivotRow R) × Contains kept p × (p.column ≡ j)) ⊎ ((p : PivotRow R) → Contains kept p → p.column ≢ j)
  find_pivot [] j = inr (λ p c. absurd (Contains-none p c))
  find_pivot (q ∷ kept) j = step (cases_eq q.column j) (find_pivot kept j)
    where
      step : (q.column ≡ j) ⊎ (q.column ≢ j)
          → ((p : PivotRow R) × Contains kept p × (p.column ≡ j)) ⊎ ((p : PivotRow R) → Contains kept p → p.column ≢ j)
          → ((p : PivotRow R) × Contains (q ∷ kept) p × (p.column ≡ j))
          ⊎ ((p : PivotRow R) → Contains (q ∷ kept) p → p.column ≢ j)
      step (inl e) r = inl (q, Contains-here q kept, e)
      step (inr ne) (inl w) = inl (w.0, Contains-later q kept w.0 w.1, w.2)
      step (inr ne) (inr none) = inr (λ p c. elim (Contains-cases q kept p c) [ inl e ↦ subst (λ (s : PivotRow R). s.column ≢ j) e ne | inr d ↦ none p d ])

  -- a pivot row is zero at the pivot of another
  pub zero-at : (width : ℕ) (kept : List (PivotRow R)) (p q : PivotRow R) → IsReduced ring width kept → Contains kept p
      → Contains kept q → p.column ≢ q.column → entry ring p.entries q.column ≡ ring.zero
  zero-at width kept p q is (h, lh, eh) (k, lk, ek) ne =
      let u = reduced-units laws width kept is in
      let ep : get_or kept h p ≡ p = eh in
      let eq : get_or kept k p ≡ q = get_or_default kept k p q lk ∙ ek in
      let apart : h ≢ k = λ (e : h ≡ k). ne (ap (λ (s : PivotRow R). s.column) (sym ep ∙ ap (λ n. get_or kept n p) e ∙ eq)) in
      sym (λ i. entry ring (ep i).entries (eq i).column) ∙ u.others h k p lh lk apart

  pub free-solves : (width free : ℕ) (kept : List (PivotRow R)) (c : List R) (p : PivotRow R)
      → IsReduced ring width kept → free < width → ((q : PivotRow R) → Contains kept q → q.column ≢ free)
      → IsFreeSolution ring width kept free c → Contains kept p → dot_of ring p.entries c ≡ ring.zero
  free-solves width free kept c p is inside apart free_is in_kept =
      let ip = is.each p in_kept in
      let v = entry-value laws width p.entries free inside ip.row in
      let vn = laws.neg_value _ v in
      dot-pair laws width p.entries c free p.column ip.row free_is.is_row inside ip.inside (λ e. apart p in_kept (sym e)) (λ j l ne np. vanish j l ne np (find_pivot kept j))
      ∙ (λ i. ring.add (ring.mul (entry ring p.entries free) (free_is.one i)) (ring.mul (ip.one i) (free_is.at_pivots p in_kept i)))
      ∙ (λ i. ring.add (laws.mul_one _ v i) (laws.one_mul _ vn i)) ∙ laws.add_neg _ v
    where
      vanish : (j : ℕ) → j < width → j ≢ free → j ≢ p.column
          → ((q : PivotRow R) × Contains kept q × (q.column ≡ j)) ⊎ ((q : PivotRow R) → Contains kept q → q.column ≢ j)
          → ring.mul (entry ring p.entries j) (entry ring c j) ≡ ring.zero
      vanish j l ne np (inl w) =
          ap (λ s. ring.mul s (entry ring c j)) (ap (entry ring p.entries) (sym w.2) ∙ zero-at width kept p w.0 is in_kept w.1 (λ e. np (sym (e ∙ w.2))))
          ∙ zero_mul laws _ (entry-value laws width c j l free_is.is_row)
      vanish j l ne np (inr none) = ap (ring.mul (entry ring p.entries j)) (free_is.elsewhere j l ne none) ∙ mul_zero laws _ (entry-value laws width p.entries j l (is.each p in_kept).row)

  -- ---- the solutions of all free columns

  -- each column below k without pivot has its solution in the list, in order
  pub record AreFreeSolutions (width : ℕ) (kept : List (PivotRow R)) (k : ℕ) (made : List (PivotRow R)) : Type 0 where
    pub each : (q : PivotRow R) → Contains made q → IsFreeSolution ring width kept q.column q.entries
    pub free : (q : PivotRow R) → Contains made q → (p : PivotRow R) → Contains kept p → p.column ≢ q.column
    pub below : (q : PivotRow R) → Contains made q → q.column < k
    pub ordered : Ordered (λ p q. p.column < q.column) made
    pub complete : (j : ℕ) → j < k → ((p : PivotRow R) → Contains kept p → p.column ≢ j)
        → (q : PivotRow R) × Contains made q × (q.column ≡ j)

  -- nothing more at a column with a pivot
  pub solutions-same : (width k : ℕ) (kept made : List (PivotRow R))
      → (p : PivotRow R) × Contains kept p × (p.column ≡ k) → AreFreeSolutions width kept k made
      → AreFreeSolutions width kept (k + 1) made
  solutions-same width k kept made w all = record {
    each = all.each;
    free = all.free;
    below = λ q c. (let h = all.below q c in omega arith);
    ordered = all.ordered;
    complete = λ j l none. at j l none (cases_eq j k);
  }
    where
      at : (j : ℕ) → j < k + 1 → ((p : PivotRow R) → Contains kept p → p.column ≢ j) → (j ≡ k) ⊎ (j ≢ k)
          → (q : PivotRow R) × Contains made q × (q.column ≡ j)
      at j l none (inl e) = absurd (none w.0 w.1 (w.2 ∙ sym e))
      at j l none (inr ne) = all.complete j (omega arith) none

  -- one more at a column without
  pub solutions-more : (width k : ℕ) (kept made : List (PivotRow R)) (c : List R)
      → ((p : PivotRow R) → Contains kept p → p.column ≢ k) → IsFreeSolution ring width kept k c
      → AreFreeSolutions width kept k made
      → AreFreeSolutions width kept (k + 1) (made ++ record { column = k; entries = c } ∷ [])
  solutions-more width k kept made c apart is all = record {
    each = λ q i. each q (cases q i);
    free = λ q i. free q (cases q i);
    below = λ q i. below q (cases q i);
    ordered = Ordered-push (λ (p q : PivotRow R). p.column < q.column) made new all.ordered (λ q i. all.below q i);
    complete = λ j l none. at j l none (cases_eq j k);
  }
    where
      new : PivotRow R
      new = record { column = k; entries = c }

      cases : (q : PivotRow R) → Contains (made ++ record { column = k; entries = c } ∷ []) q
          → Contains made q ⊎ (record { column = k; entries = c } ≡ q)
      cases q i = elim (Contains-append_cases made (new ∷ []) q i) [ inl m ↦ inl m | inr n ↦ elim (Contains-cases new [] q n) [ inl e ↦ inr e | inr d ↦ absurd (Contains-none q d) ] ]

      each : (q : PivotRow R) → Contains made q ⊎ (record { column = k; entries = c } ≡ q)
          → IsFreeSolution ring width kept q.column q.entries
      each q (inl m) = all.each q m
      each q (inr e) = subst (λ (s : PivotRow R). IsFreeSolution ring width kept s.column s.entries) e is

      free : (q : PivotRow R) → Contains made q ⊎ (record { column = k; entries = c } ≡ q) → (p : PivotRow R)
          → Contains kept p → p.column ≢ q.column
      free q (inl m) = all.free q m
      free q (inr e) = subst (λ (s : PivotRow R). (p : PivotRow R) → Contains kept p → p.column ≢ s.column) e apart

      below : (q : PivotRow R) → Contains made q ⊎ (record { column = k; entries = c } ≡ q) → q.column < k + 1
      below q (inl m) = let h = all.below q m in omega arith
      below q (inr e) = subst (λ (s : PivotRow R). s.column < k + 1) e (omega arith)

      at : (j : ℕ) → j < k + 1 → ((p : PivotRow R) → Contains kept p → p.column ≢ j) → (j ≡ k) ⊎ (j ≢ k)
          → (q : PivotRow R) × Contains (made ++ record { column = k; entries = c } ∷ []) q × (q.column ≡ j)
      at j l none (inl e) = (new, Contains-append_right made (new ∷ []) new (Contains-here new []), sym e)
      at j l none (inr ne) = let w = all.complete j (omega arith) none in (w.0, Contains-append_left made (new ∷ []) w.0 w.1, w.2)

  pub solutions-none : (width : ℕ) (kept : List (PivotRow R)) → AreFreeSolutions width kept 0 []
  solutions-none width kept = record {
    each = λ q i. absurd (Contains-none q i);
    free = λ q i. absurd (Contains-none q i);
    below = λ q i. absurd (Contains-none q i);
    ordered = tt;
    complete = λ j l none. absurd (omega arith);
  }

  -- ---- how many columns have a pivot

  pub pivots_below : ℕ → List (PivotRow R) → ℕ
  pivots_below k [] = 0
  pivots_below k (p ∷ kept) = cond (nat_lt p.column k) 1 0 + pivots_below k kept

  pub pivots-none : (k : ℕ) (kept : List (PivotRow R)) → ((p : PivotRow R) → Contains kept p → p.column ≢ k)
      → pivots_below (k + 1) kept ≡ pivots_below k kept
  unfolding pivots_below
  pivots-none k [] none = refl
  pivots-none k (p ∷ kept) none =
      let r = pivots-none k kept (λ q c. none q (Contains-later p kept q c)) in
      let ne = none p (Contains-here p kept) in
      let e : nat_lt p.column (k + 1) ≡ nat_lt p.column k = both_ways _ _ (λ t. lt-ltb _ _ (less p.column k ne (ltb-true _ _ t))) (λ t. lt-ltb _ _ (more p.column k (ltb-true _ _ t))) in
      λ i. cond (e i) 1 0 + r i
    where
      less : (a k : ℕ) → a ≢ k → a < k + 1 → a < k
      less a k ne l = omega arith

      more : (a k : ℕ) → a < k → a < k + 1
      more a k l = omega arith

  pub pivots-one : (k : ℕ) (kept : List (PivotRow R)) (p : PivotRow R) → Ordered (λ p q. p.column < q.column) kept
      → Contains kept p → p.column ≡ k → pivots_below (k + 1) kept ≡ suc (pivots_below k kept)
  unfolding pivots_below
  pivots-one k [] p o c e = absurd (Contains-none p c)
  pivots-one k (q ∷ kept) p o c e = step (Contains-cases q kept p c) (pivots-one k kept p o.1)
    where
      first : (n : ℕ) → 1 + n ≡ suc (0 + n)
      first n = omega arith

      later : (n : ℕ) → 1 + suc n ≡ suc (1 + n)
      later n = omega arith

      step : (q ≡ p) ⊎ Contains kept p
          → (Contains kept p → p.column ≡ k → pivots_below (k + 1) kept ≡ suc (pivots_below k kept))
          → pivots_below (k + 1) (q ∷ kept) ≡ suc (pivots_below k (q ∷ kept))
      step (inl same) ih =
          let at : q.column ≡ k = ap (λ (s : PivotRow R). s.column) same ∙ e in
          let r = pivots-none k kept (λ s d f. absurd (omega (arith, at, f, o.0 s d))) in
          let t = lt-ltb q.column (k + 1) (omega (arith, at)) in
          let u = le-ltb q.column k (omega (arith, at)) in
          (λ i. cond (t i) 1 0 + r i) ∙ first (pivots_below k kept) ∙ sym (ap (λ b. suc (cond b 1 0 + pivots_below k kept)) u)
      step (inr d) ih =
          let before : q.column < k = omega (arith, o.0 p d, e) in
          let t = lt-ltb q.column (k + 1) (omega (arith, before)) in
          let u = lt-ltb q.column k before in
          let r = ih d e in
          (λ i. cond (t i) 1 0 + r i) ∙ later (pivots_below k kept) ∙ sym (ap (λ b. suc (cond b 1 0 + pivots_below k kept)) u)

  pub pivots-all : (width : ℕ) (kept : List (PivotRow R)) → ((p : PivotRow R) → Contains kept p → p.column < width)
      → pivots_below width kept ≡ length kept
  unfolding pivots_below
  pivots-all width [] h = refl
  pivots-all width (p ∷ kept) h =
      let e = lt-ltb _ _ (h p (Contains-here p kept)) in
      let r = pivots-all width kept (λ q c. h q (Contains-later p kept q c)) in
      (λ i. cond (e i) 1 0 + r i) ∙ more (length kept)
    where
      more : (n : ℕ) → 1 + n ≡ suc n
      more n = omega arith

  pub pivots-start : (kept : List (PivotRow R)) → pivots_below 0 kept ≡ 0
  unfolding pivots_below
  pivots-start [] = refl
  pivots-start (p ∷ kept) =
      let e = le-ltb p.column 0 (omega arith) in
      let r = pivots-start kept in
      (λ i. cond (e i) 1 0 + r i) ∙ none
    where
      none : 0 + 0 ≡ 0
      none = omega arith

  pub columns-rise : (width : ℕ) (kept : List (PivotRow R)) → IsReduced ring width kept
      → Ordered (λ p q. p.column < q.column) kept
  columns-rise width kept is = weaker kept is.ordered
    where
      weaker : (xs : List (PivotRow R)) → Ordered (IsLeftOf ring) xs
          → Ordered (λ (p q : PivotRow R). p.column < q.column) xs
      weaker [] o = tt
      weaker (x ∷ xs) o = ((λ y c. (o.0 y c).left), weaker xs o.1)

module _ {R : Type 0} {ring : RingOf R} (laws : IsRing ring) where
  made-units : (width : ℕ) (kept made : List (PivotRow R)) → IsReduced ring width kept
      → AreFreeSolutions laws width kept width made → HaveUnitColumns laws width made
  made-units width kept made is all = record {
    are = each-All (IsRow ring width) (rows_of ring made) (λ b c. (let w = map-Contains (λ (p : PivotRow R). p.entries) made b c in subst (IsRow ring width) w.2 (all.each w.0 w.1).is_row));
    inside = λ k d l. all.below _ (Contains-get_or made k d l);
    one = λ k d l. (all.each _ (Contains-get_or made k d l)).one;
    others = λ h k d lh lk ne. (all.each _ (Contains-get_or made h d lh)).elsewhere _ (all.below _ (Contains-get_or made k d lk)) (different h k d lh lk ne (cases_lt h k)) (all.free _ (Contains-get_or made k d lk));
  }
    where
      rises : (h k : ℕ) (d : PivotRow R) → h < k → k < length made → (get_or made h d).column < (get_or made k d).column
      rises h k d l m = Ordered-at (λ (p q : PivotRow R). p.column < q.column) made h k d all.ordered l m

      different : (h k : ℕ) (d : PivotRow R) → h < length made → k < length made → h ≢ k → (h < k) ⊎ (k ≤ h)
          → (get_or made k d).column ≢ (get_or made h d).column
      different h k d lh lk ne (inl l) e = absurd (omega (arith, e, rises h k d l lk))
      different h k d lh lk ne (inr l) e = absurd (omega (arith, e, rises k h d (omega arith) lh))

  module _ (comm : IsCommutative ring) (m : Matrix R) (kept made : List (PivotRow R)) (are : IsMatrix ring m) (is : IsReduced ring m.cols kept) (same : HaveSameSpan ring m.cols m.rows (rows_of ring kept)) where
    -- what is zero at the reduced rows is zero at the rows
    pub kernel-from : (x : List R) → IsRow ring m.cols x
        → ((p : PivotRow R) → Contains kept p → dot_of ring p.entries x ≡ ring.zero) → IsKernelMember ring m x
    kernel-from x r h = (r, map-zeros laws (λ row. dot_of ring row x) m.rows at)
      where
        at : (b : List R) → Contains m.rows b → dot_of ring b x ≡ ring.zero
        at b c =
            span-dot laws m.cols (rows_of ring kept) b x (reduced-rows laws m.cols kept is) r
            (λ a i. (let w = map-Contains (λ (p : PivotRow R). p.entries) kept a i in subst (λ s. dot_of ring s x ≡ ring.zero) w.2 (h w.0 w.1)))
            ((same b).0 (span-member laws m.cols m.rows b are c))

    -- and the other way
    pub kernel-to : (x : List R) → IsKernelMember ring m x → (p : PivotRow R) → Contains kept p
        → dot_of ring p.entries x ≡ ring.zero
    kernel-to x (r, e) p c =
        span-dot laws m.cols m.rows p.entries x are r (λ b i. at b i)
        ((same p.entries).1 (span-member laws m.cols (rows_of ring kept) p.entries (reduced-rows laws m.cols kept is) (Contains-map (λ (q : PivotRow R). q.entries) kept p c)))
      where
        at : (b : List R) → Contains m.rows b → dot_of ring b x ≡ ring.zero
        at b (k, l, q) =
            ap (λ s. dot_of ring s x) (sym q) ∙ sym (get_or-map (λ row. dot_of ring row x) m.rows k b ring.zero l) ∙ ap (λ v. get_or v k ring.zero) e
            ∙ entry-zeros laws (length m.rows) k l

    module _ (all : AreFreeSolutions laws m.cols kept m.cols made) where
      made-member : (v : List R) → Contains (rows_of ring made) v → IsKernelMember ring m v
      made-member v c =
          let w = map-Contains (λ (p : PivotRow R). p.entries) made v c in
          subst (IsKernelMember ring m) w.2 (kernel-from w.0.entries (all.each w.0 w.1).is_row (λ p i. free-solves laws m.cols w.0.column kept w.0.entries p is (all.below w.0 w.1) (all.free w.0 w.1) (all.each w.0 w.1) i))

      -- every solution is the combination of these with its entries at the free columns
      made-spans : (x : List R) → IsKernelMember ring m x → IsCombination ring m.cols (rows_of ring made) x
      made-spans x member = (ds, (a.0 ∙ sym many, a.1), whole)
        where
          r : IsRow ring m.cols x
          r = member.0

          units : HaveUnitColumns laws m.cols made
          units = made-units m.cols kept made is all

          many : length (rows_of ring made) ≡ length made
          many = length-map made (λ (p : PivotRow R). p.entries)

          ds : List R
          ds = at_units laws m.cols made units x

          a : AreCoefficients ring (length made) (at_units laws m.cols made (made-units m.cols kept made is all) x)
          a = at_units-row laws m.cols made units x r

          w : List R
          w = row_times ring m.cols (at_units laws m.cols made (made-units m.cols kept made is all) x) (rows_of ring made)

          rw' : IsRow ring m.cols (row_times ring m.cols (at_units laws m.cols made (made-units m.cols kept made is all) x) (rows_of ring made))
          rw' = times-row laws m.cols ds (rows_of ring made) a.1 units.are

          n : R
          n = ring.neg ring.one

          vn : ring.IsValue (ring.neg ring.one)
          vn = laws.neg_value _ laws.one_value

          d : List R
          d = row_plus ring x (row_scale ring (ring.neg ring.one) w)

          rs : IsRow ring m.cols (row_scale ring (ring.neg ring.one) w)
          rs = scale-row laws m.cols n w vn rw'

          rd : IsRow ring m.cols (row_plus ring x (row_scale ring (ring.neg ring.one) w))
          rd = plus-row laws m.cols x _ r rs

          -- at a free column the difference is zero
          at_free : (q : PivotRow R) → Contains made q → entry ring d q.column ≡ ring.zero
          at_free q (k, l, e) =
              let j = q.column in
              let hj = all.below q (k, l, e) in
              let vx = entry-value laws m.cols x j hj r in
              let coefficient : entry ring w j ≡ entry ring x j =
              ap (λ (s : PivotRow R). entry ring w s.column) (sym e) ∙ unit-coefficient laws m.cols made units ds k q a l
              ∙ get_or-map (λ (s : PivotRow R). entry ring x s.column) made k q ring.zero l ∙ ap (λ (s : PivotRow R). entry ring x s.column) e in
              entry-plus laws m.cols x _ j hj r rs
              ∙ ap (ring.add (entry ring x j)) (entry-scale laws m.cols n w j hj rw' ∙ ap (ring.mul n) coefficient)
              ∙ ap (λ s. ring.add s (ring.mul n (entry ring x j))) (sym (laws.one_mul _ vx))
              ∙ sym (laws.add_mul ring.one n _ laws.one_value vn vx) ∙ ap (λ s. ring.mul s (entry ring x j)) (laws.add_neg _ laws.one_value) ∙ zero_mul laws _ vx

          -- it is a solution too
          solves : (p : PivotRow R) → Contains kept p → dot_of ring d p.entries ≡ ring.zero
          solves p c =
              let ip = is.each p c in
              let e = dot-comm laws comm x p.entries r.1 ip.row.1 ∙ kernel-to x member p c in
              let f = dot-scale laws n w p.entries vn rw'.1 ip.row.1
              ∙ ap (ring.mul n) (dot-combination laws m.cols (rows_of ring made) ds p.entries units.are a.1 ip.row (λ b i.
              (let z = map-Contains (λ (q : PivotRow R). q.entries) made b i in
              let iz = all.each z.0 z.1 in
              subst (λ s. dot_of ring s p.entries ≡ ring.zero) z.2 (dot-comm laws comm z.0.entries p.entries iz.is_row.1 ip.row.1 ∙ free-solves laws m.cols z.0.column kept z.0.entries p is (all.below z.0 z.1) (all.free z.0 z.1) iz c))))
              ∙ mul_zero laws n vn in
              dot-plus laws m.cols x _ p.entries r rs ip.row ∙ (λ i. ring.add (e i) (f i)) ∙ laws.add_zero _ laws.zero_value

          -- so it is zero at the pivots
          at_pivot : (p : PivotRow R) → Contains kept p → entry ring d p.column ≡ ring.zero
          at_pivot p c =
              let ip = is.each p c in
              let v = entry-value laws m.cols d p.column ip.inside rd in
              sym (laws.mul_one _ v) ∙ ap (ring.mul (entry ring d p.column)) (sym ip.one)
              ∙ sym (dot-single laws m.cols d p.entries p.column rd ip.row ip.inside (λ j l ne. vanish j l ne (find_pivot laws kept j))) ∙ solves p c
            where
              vanish : (j : ℕ) → j < m.cols → j ≢ p.column
                  → ((q : PivotRow R) × Contains kept q × (q.column ≡ j))
                  ⊎ ((q : PivotRow R) → Contains kept q → q.column ≢ j)
                  → ring.mul (entry ring d j) (entry ring p.entries j) ≡ ring.zero
              vanish j l ne (inl z) =
                  ap (ring.mul (entry ring d j)) (ap (entry ring p.entries) (sym z.2) ∙ zero-at laws m.cols kept p z.0 is c z.1 (λ e. ne (sym (e ∙ z.2)))) ∙ mul_zero laws _ (entry-value laws m.cols d j l rd)
              vanish j l ne (inr none) =
                  let z = all.complete j l none in
                  ap (λ s. ring.mul s (entry ring p.entries j)) (ap (entry ring d) (sym z.2) ∙ at_free z.0 z.1) ∙ zero_mul laws _ (entry-value laws m.cols p.entries j l (is.each p c).row)

          nothing : d ≡ zero_row ring m.cols
          nothing = zero_row-ext laws m.cols d rd.0 (λ j l. at j l (find_pivot laws kept j))
            where
              at : (j : ℕ) → j < m.cols
                  → ((q : PivotRow R) × Contains kept q × (q.column ≡ j))
                  ⊎ ((q : PivotRow R) → Contains kept q → q.column ≢ j) → entry ring d j ≡ ring.zero
              at j l (inl z) = ap (entry ring d) (sym z.2) ∙ at_pivot z.0 z.1
              at j l (inr none) = let z = all.complete j l none in ap (entry ring d) (sym z.2) ∙ at_free z.0 z.1

          whole : x ≡ w
          whole =
              sym (plus-undo laws m.cols n x w vn r rw') ∙ ap (λ s. row_plus ring s (row_scale ring (ring.neg n) w)) nothing
              ∙ zeros-plus laws m.cols _ (scale-row laws m.cols _ w (laws.neg_value _ vn) rw') ∙ ap (λ s. row_scale ring s w) (neg_neg laws ring.one laws.one_value) ∙ scale-one laws m.cols w rw'

      -- The solutions at the free columns are a basis of the kernel.
      pub kernel-basis : IsBasisOf ring m.cols (IsKernelMember ring m) (rows_of ring made)
      kernel-basis = record {
        members = made-member;
        spanning = made-spans;
        independent = units-independent laws m.cols made (made-units m.cols kept made is all);
      }
