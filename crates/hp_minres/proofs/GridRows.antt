-- Products of row vectors with matrices, as functions of their places, and the rows and matrices that lists give.
use Rattle.std.specs.Prelude.{◌≡◌, ℕ, zero, suc, ◌<◌, ◌≤◌, List, [], ◌∷◌, map, length, All, replicate}
use Rattle.std.proofs.lemmas.List.Elements.{All-nil, All-cons, All-head, All-tail}
use mathlib.Core.Path.{refl, sym, ap, ◌∙◌, subst}
use native.Mathlib.Omega.{arith}
use Rattle.hp_algebra.specs.Ring.{RingOf, IsRing}
use Rattle.hp_algebra.specs.Rows.{entry, row_plus, row_times}
use Rattle.hp_algebra.proofs.Rings.{mul_zero, zero_mul}
use Rattle.hp_minres.specs.Grids.{skip, sum, zeros, combine, cell, IsRowOf, IsGrid}
use Rattle.hp_minres.proofs.RangeSums.{put, skip_above, put_other, put_same, every_place, Values, sum_value, sum_zero, sum_skip}

module _ {R : Type 0} (ring : RingOf R) where
  -- the unit vectors
  abbrev pub unit : ℕ → ℕ → R
  unit r = put r ring.one (zeros ring)

  -- the first n places
  abbrev pub listed : ℕ → (ℕ → R) → List R
  listed zero c = []
  listed (suc n) c = c zero ∷ listed n (λ i. c (suc i))

module _ {R : Type 0} {ring : RingOf R} (laws : IsRing ring) where
  open ring use {add as ◌⊕◌, mul as ◌⊗◌, neg, zero as 0ᵣ, one as 1ᵣ, IsValue}

  infixl 60 ◌⊕◌
  infixl 70 ◌⊗◌
  pub product_value : (c d : ℕ → R) → Values ring c → Values ring d → Values ring (λ i. c i ⊗ d i)
  product_value c d v w i = laws.mul_value (c i) (d i) (v i) (w i)

  pub zeros_row : (n : ℕ) → IsRowOf ring n (zeros ring)
  zeros_row n = record { value = λ i. laws.zero_value; end = λ i l. refl }

  pub combine_row : (n m : ℕ) (c : ℕ → R) (A : ℕ → ℕ → R) → Values ring c → IsGrid ring m A → IsRowOf ring m (combine ring n c A)
  combine_row n m c A v g = record {
    value = λ j. sum_value laws n (λ i. c i ⊗ A i j) (λ i. laws.mul_value (c i) (A i j) (v i) ((g i).value j));
    end = λ j l. ap (sum ring n) (λ k i. (ap (λ u. c i ⊗ u) ((g i).end j l) ∙ mul_zero laws (c i) (v i)) k) ∙ sum_zero laws n;
  }

  pub combine_zeros : (n m : ℕ) (A : ℕ → ℕ → R) → IsGrid ring m A → combine ring n (zeros ring) A ≡ (zeros ring)
  combine_zeros n m A g = λ k j. (ap (sum ring n) (λ l i. zero_mul laws (A i j) ((g i).value j) l) ∙ sum_zero laws n) k

  -- the row with x at r, and d at the other places, times the matrix
  pub combine_put : (r n m : ℕ) (x : R) (d : ℕ → R) (A : ℕ → ℕ → R) → IsValue x → Values ring d → IsGrid ring m A → r ≤ n → (j : ℕ)
      → combine ring (suc n) (put r x d) A j ≡ (x ⊗ A r j) ⊕ sum ring n (λ i. d i ⊗ A (skip r i) j)
  combine_put r n m x d A vx vd g l j =
      sum_skip laws r n (λ i. put r x d i ⊗ A i j) (λ i. laws.mul_value _ _ (put_values i) ((g i).value j)) l
      ∙ (λ k. (put_same r x d k ⊗ A r j) ⊕ sum ring n (λ i. put_other r x d i k ⊗ A (skip r i) j))
    where
      put_values : Values ring (put r x d)
      put_values = every_place (λ i. IsValue (put r x d i)) r (subst IsValue (sym (put_same r x d)) vx) (λ k. subst IsValue (sym (put_other r x d k)) (vd k))

  pub put_row : (r n : ℕ) (x : R) (d : ℕ → R) → r ≤ n → IsValue x → IsRowOf ring n d → IsRowOf ring (suc n) (put r x d)
  put_row r n x d l vx h = record {
    value = every_place (λ i. IsValue (put r x d i)) r (subst IsValue (sym (put_same r x d)) vx) (λ k. subst IsValue (sym (put_other r x d k)) (h.value k));
    end = after;
  }
    where
      after : (i : ℕ) → suc n ≤ i → put r x d i ≡ 0ᵣ
      after zero a = absurd (omega arith)
      after (suc i) a = ap (put r x d) (sym (skip_above r i (omega arith))) ∙ put_other r x d i ∙ h.end i (omega arith)

  pub unit_row : (r n : ℕ) → r < n → IsRowOf ring n (unit ring r)
  unit_row r zero l = absurd (omega arith)
  unit_row r (suc n) l = put_row r n 1ᵣ (zeros ring) (omega arith) laws.one_value (zeros_row n)

  pub combine_unit : (r n m : ℕ) (A : ℕ → ℕ → R) → IsGrid ring m A → r < n → combine ring n (unit ring r) A ≡ A r
  combine_unit r zero m A g l = absurd (omega arith)
  combine_unit r (suc n) m A g l = λ k j.
      (combine_put r n m 1ᵣ (zeros ring) A laws.one_value (λ i. laws.zero_value) g (omega arith) j
      ∙ (λ k. laws.one_mul (A r j) ((g r).value j) k ⊕ (ap (sum ring n) (λ l i. zero_mul laws (A (skip r i) j) ((g (skip r i)).value j) l) ∙ sum_zero laws n) k)
      ∙ laws.add_zero (A r j) ((g r).value j)) k

  -- ---- lists as functions

  abbrev at : List R → ℕ → R
  at xs i = entry ring xs i

  pub length-listed : (n : ℕ) (c : ℕ → R) → length (listed ring n c) ≡ n
  length-listed zero c = refl
  length-listed (suc n) c = ap suc (length-listed n (λ i. c (suc i)))

  pub listed_values : (n : ℕ) (c : ℕ → R) → Values ring c → All IsValue (listed ring n c)
  listed_values zero c v = All-nil IsValue
  listed_values (suc n) c v = All-cons IsValue (c zero) (listed ring n (λ i. c (suc i))) (v zero) (listed_values n (λ i. c (suc i)) (λ i. v (suc i)))

  at_listed_place : (n : ℕ) (c : ℕ → R) → IsRowOf ring n c → (i : ℕ) → at (listed ring n c) i ≡ c i
  at_listed_place zero c h i = sym (h.end i (omega arith))
  at_listed_place (suc n) c h zero = refl
  at_listed_place (suc n) c h (suc i) = at_listed_place n (λ k. c (suc k)) (record { value = λ k. h.value (suc k); end = λ k l. h.end (suc k) (omega arith) }) i

  pub at_listed : (n : ℕ) (c : ℕ → R) → IsRowOf ring n c → at (listed ring n c) ≡ c
  at_listed n c h = λ k i. at_listed_place n c h i k

  pub at_values : (xs : List R) → All IsValue xs → Values ring (at xs)
  at_values [] h i = laws.zero_value
  at_values (x ∷ xs) h zero = All-head IsValue x xs h
  at_values (x ∷ xs) h (suc i) = at_values xs (All-tail IsValue x xs h) i

  pub at_end : (xs : List R) (i : ℕ) → length xs ≤ i → at xs i ≡ 0ᵣ
  at_end [] i l = refl
  at_end (x ∷ xs) zero l = absurd (omega arith)
  at_end (x ∷ xs) (suc i) l = at_end xs i (omega arith)

  pub at_row : (n : ℕ) (xs : List R) → length xs ≡ n → All IsValue xs → IsRowOf ring n (at xs)
  at_row n xs e h = record { value = at_values xs h; end = λ i l. at_end xs i (subst (λ k. k ≤ i) (sym e) l) }

  -- two lists of one length with the same entries are equal
  pub list_ext : (xs ys : List R) → length xs ≡ length ys → ((i : ℕ) → at xs i ≡ at ys i) → xs ≡ ys
  list_ext [] [] e f = refl
  list_ext [] (y ∷ ys) e f = absurd (none (length ys) e)
    where
      none : (n : ℕ) → 0 ≡ suc n → ⊥
      none n e = omega arith
  list_ext (x ∷ xs) [] e f = absurd (none (length xs) e)
    where
      none : (n : ℕ) → suc n ≡ 0 → ⊥
      none n e = omega arith
  list_ext (x ∷ xs) (y ∷ ys) e f = λ k. f zero k ∷ list_ext xs ys (shorter (length xs) (length ys) e) (λ i. f (suc i)) k
    where
      shorter : (m n : ℕ) → suc m ≡ suc n → m ≡ n
      shorter m n e = omega arith

  pub at_replicate : (n : ℕ) → at (replicate n 0ᵣ) ≡ (zeros ring)
  at_replicate n = λ k i. go n i k
    where
      go : (n i : ℕ) → at (replicate n 0ᵣ) i ≡ 0ᵣ
      go zero i = refl
      go (suc n) zero = refl
      go (suc n) (suc i) = go n i

  pub length-row_plus : (a b : List R) → length a ≡ length b → length (row_plus ring a b) ≡ length a
  length-row_plus [] b e = refl
  length-row_plus (x ∷ a) [] e = sym e
  length-row_plus (x ∷ a) (y ∷ b) e = ap suc (length-row_plus a b (shorter (length a) (length b) e))
    where
      shorter : (m n : ℕ) → suc m ≡ suc n → m ≡ n
      shorter m n e = omega arith

  pub at_row_plus : (a b : List R) → length a ≡ length b → (j : ℕ) → at (row_plus ring a b) j ≡ at a j ⊕ at b j
  at_row_plus [] [] e j = sym (laws.add_zero 0ᵣ laws.zero_value)
  at_row_plus [] (y ∷ b) e j = absurd (none (length b) e)
    where
      none : (n : ℕ) → 0 ≡ suc n → ⊥
      none n e = omega arith
  at_row_plus (x ∷ a) [] e j = absurd (none (length a) e)
    where
      none : (n : ℕ) → suc n ≡ 0 → ⊥
      none n e = omega arith
  at_row_plus (x ∷ a) (y ∷ b) e zero = refl
  at_row_plus (x ∷ a) (y ∷ b) e (suc j) = at_row_plus a b (shorter (length a) (length b) e) j
    where
      shorter : (m n : ℕ) → suc m ≡ suc n → m ≡ n
      shorter m n e = omega arith

  pub length-times : (c : R) (a : List R) → length (map (ring.mul c) a) ≡ length a
  length-times c [] = refl
  length-times c (x ∷ a) = ap suc (length-times c a)

  pub at_times : (c : R) (a : List R) → IsValue c → (j : ℕ) → at (map (ring.mul c) a) j ≡ c ⊗ at a j
  at_times c [] v j = sym (mul_zero laws c v)
  at_times c (x ∷ a) v zero = refl
  at_times c (x ∷ a) v (suc j) = at_times c a v j

  -- a combination of rows
  abbrev Widths : ℕ → List (List R) → Type 0
  Widths cols rows = All (λ row. length row ≡ cols) rows

  length-replicate : (n : ℕ) → length (replicate n 0ᵣ) ≡ n
  length-replicate zero = refl
  length-replicate (suc n) = ap suc (length-replicate n)

  pub length-row_times : (cols : ℕ) (cs : List R) (rows : List (List R)) → Widths cols rows → length (row_times ring cols cs rows) ≡ cols
  length-row_times cols [] rows w = length-replicate cols
  length-row_times cols (c ∷ cs) [] w = length-replicate cols
  length-row_times cols (c ∷ cs) (row ∷ rows) w =
      let e = length-times c row ∙ All-head (λ row. length row ≡ cols) row rows w in
      length-row_plus _ _ (e ∙ sym (length-row_times cols cs rows (All-tail (λ row. length row ≡ cols) row rows w))) ∙ e

  pub at_row_times : (cols : ℕ) (cs : List R) (rows : List (List R)) → length cs ≡ length rows → Widths cols rows → All IsValue cs → (j : ℕ)
      → at (row_times ring cols cs rows) j ≡ combine ring (length rows) (at cs) (cell ring rows) j
  at_row_times cols [] [] e w v j = λ k. at_replicate cols k j
  at_row_times cols [] (row ∷ rows) e w v j = absurd (none (length rows) e)
    where
      none : (n : ℕ) → 0 ≡ suc n → ⊥
      none n e = omega arith
  at_row_times cols (c ∷ cs) [] e w v j = absurd (none (length cs) e)
    where
      none : (n : ℕ) → suc n ≡ 0 → ⊥
      none n e = omega arith
  at_row_times cols (c ∷ cs) (row ∷ rows) e w v j =
      let wt = All-tail (λ row. length row ≡ cols) row rows w in
      at_row_plus _ _ (length-times c row ∙ All-head (λ row. length row ≡ cols) row rows w ∙ sym (length-row_times cols cs rows wt)) j
      ∙ (λ k. at_times c row (All-head IsValue c cs v) j k ⊕ at_row_times cols cs rows (shorter (length cs) (length rows) e) wt (All-tail IsValue c cs v) j k)
    where
      shorter : (m n : ℕ) → suc m ≡ suc n → m ≡ n
      shorter m n e = omega arith

  -- the entries of a matrix
  pub entry_grid : (cols : ℕ) (rows : List (List R)) → Widths cols rows → All (All IsValue) rows → IsGrid ring cols (cell ring rows)
  entry_grid cols [] w v i = zeros_row cols
  entry_grid cols (row ∷ rows) w v zero = at_row cols row (All-head (λ row. length row ≡ cols) row rows w) (All-head (All IsValue) row rows v)
  entry_grid cols (row ∷ rows) w v (suc i) = entry_grid cols rows (All-tail (λ row. length row ≡ cols) row rows w) (All-tail (All IsValue) row rows v) i

  pub values_at : (xs : List R) → Values ring (at xs) → All IsValue xs
  values_at [] v = All-nil IsValue
  values_at (x ∷ xs) v = All-cons IsValue x xs (v zero) (values_at xs (λ i. v (suc i)))
