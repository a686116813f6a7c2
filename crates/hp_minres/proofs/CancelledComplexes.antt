-- Cancelling a unit keeps a complex exact.
use Rattle.std.specs.Prelude.{◌≡◌, ◌≢◌, ◌⊎◌, ℕ, suc, ◌<◌, ◌≤◌}
use mathlib.Core.Logic.{inl, inr}
use mathlib.Core.Path.{refl, sym, ap, ◌∙◌, subst}
use native.Mathlib.Omega.{arith}
use Rattle.hp_algebra.specs.Ring.{RingOf, IsRing}
use Rattle.hp_minres.specs.Grids.{skip, zeros, combine, IsGrid, IsExactAt, eliminated}
use Rattle.hp_minres.proofs.RangeSums.{skip_above, three_ways}
use Rattle.hp_minres.proofs.GridRows.{combine_unit, unit, unit_row}
use Rattle.hp_minres.proofs.Cancellation.{lower_square, middle_square, new_grid, upper_square, without_column, without_row}
use Rattle.hp_minres.proofs.Retracts.{IsSquare, retract_exact, unchanged}

-- three places in a row, and the others
pub around : (P : ℕ → Type 0) (h : ℕ) → P h → P (suc h) → P (suc (suc h)) → ((k : ℕ) → k ≢ h → k ≢ suc h → k ≢ suc (suc h) → P k) → (k : ℕ) → P k
around P h a b d f k = first (three_ways k h)
  where
    third : suc h < k → (k < suc (suc h)) ⊎ ((k ≡ suc (suc h)) ⊎ (suc (suc h) < k)) → P k
    third g (inl l) = absurd (omega arith)
    third g (inr (inl e)) = subst P (sym e) d
    third g (inr (inr l)) = f k (λ e. omega arith) (λ e. omega arith) (λ e. omega arith)

    second : h < k → (k < suc h) ⊎ ((k ≡ suc h) ⊎ (suc h < k)) → P k
    second g (inl l) = absurd (omega arith)
    second g (inr (inl e)) = subst P (sym e) b
    second g (inr (inr l)) = third l (three_ways k (suc (suc h)))

    first : (k < h) ⊎ ((k ≡ h) ⊎ (h < k)) → P k
    first (inl l) = f k (λ e. omega arith) (λ e. omega arith) (λ e. omega arith)
    first (inr (inl e)) = subst P (sym e) a
    first (inr (inr l)) = second l (three_ways k (suc h))

module _ {R : Type 0} (ring : RingOf R) where
  -- free modules of the ranks `size`, and map k from level k + 1 to level k, exact at every level but the first
  pub record IsExactComplex (size : ℕ → ℕ) (A : ℕ → ℕ → ℕ → R) : Type 0 where
    pub grid : (k : ℕ) → IsGrid ring (size k) (A k)
    pub exact : (k : ℕ) → IsExactAt ring (size (suc k)) (A k) (size (suc (suc k))) (A (suc k))

  -- The new complex has map h + 1 without row r and column c after the elimination step, map h without row c, map h + 2 without column r, and the rest as it was.
  pub record IsCancelled (size : ℕ → ℕ) (A : ℕ → ℕ → ℕ → R) (h r c : ℕ) (w : R) (size' : ℕ → ℕ) (A' : ℕ → ℕ → ℕ → R) : Type 0 where
    pub rows : size (suc (suc h)) ≡ suc (size' (suc (suc h)))
    pub columns : size (suc h) ≡ suc (size' (suc h))
    pub other_sizes : (k : ℕ) → k ≢ suc h → k ≢ suc (suc h) → size k ≡ size' k
    pub row_in : r ≤ size' (suc (suc h))
    pub column_in : c ≤ size' (suc h)
    pub value : ring.IsValue w
    pub unit_left : ring.mul (A (suc h) r c) w ≡ ring.one
    pub unit_right : ring.mul w (A (suc h) r c) ≡ ring.one
    pub lower : (i j : ℕ) → A' h i j ≡ A h (skip c i) j
    pub middle : (i j : ℕ) → A' (suc h) i j ≡ eliminated ring (A (suc h)) r c w i j
    pub upper : (i j : ℕ) → A' (suc (suc h)) i j ≡ A (suc (suc h)) i (skip r j)
    pub others : (k : ℕ) → k ≢ h → k ≢ suc h → k ≢ suc (suc h) → (i j : ℕ) → A k i j ≡ A' k i j

module _ {R : Type 0} {ring : RingOf R} (laws : IsRing ring) where
  open ring use {add as ◌⊕◌, mul as ◌⊗◌, neg, zero as 0ᵣ, one as 1ᵣ, IsValue}

  infixl 60 ◌⊕◌
  infixl 70 ◌⊗◌
  -- equal sizes and entries
  pub along : (n n' : ℕ) (A A' : ℕ → ℕ → R) (q q' : ℕ) (N N' : ℕ → ℕ → R) → n ≡ n' → ((i j : ℕ) → A i j ≡ A' i j) → q ≡ q' → ((i j : ℕ) → N i j ≡ N' i j)
      → IsExactAt ring n A q N → IsExactAt ring n' A' q' N'
  along n n' A A' q q' N N' e f g h x =
      let T = ℕ × (ℕ → ℕ → R) × ℕ × (ℕ → ℕ → R) in
      let from : T = (n, A, q, N) in
      let to : T = (n', A', q', N') in
      let path : from ≡ to = λ k. (e k, λ i j. f i j k, g k, λ i j. h i j k) in
      subst (λ (t : T). IsExactAt ring t.0 t.1 t.2 t.3) path x

  grid_along : (n n' : ℕ) (A A' : ℕ → ℕ → R) → n ≡ n' → ((i j : ℕ) → A i j ≡ A' i j) → IsGrid ring n A → IsGrid ring n' A'
  grid_along n n' A A' e f g i = record {
    value = λ j. subst IsValue (f i j) ((g i).value j);
    end = λ j l. sym (f i j) ∙ (g i).end j (subst (λ k. k ≤ j) (sym e) l);
  }

  module _ (size : ℕ → ℕ) (A : ℕ → ℕ → ℕ → R) (e : IsExactComplex ring size A) (h r c : ℕ) (w : R) (size' : ℕ → ℕ) (A' : ℕ → ℕ → ℕ → R) (z : IsCancelled ring size A h r c w size' A') where
    abbrev n : ℕ
    n = size' (suc (suc h))

    abbrev m : ℕ
    m = size' (suc h)

    grid1 : IsGrid ring (suc m) (A (suc h))
    grid1 = subst (λ k. IsGrid ring k (A (suc h))) z.columns (e.grid (suc h))

    grid2 : IsGrid ring (suc n) (A (suc (suc h)))
    grid2 = subst (λ k. IsGrid ring k (A (suc (suc h)))) z.rows (e.grid (suc (suc h)))

    exact0 : IsExactAt ring (suc m) (A h) (suc n) (A (suc h))
    exact0 = along _ _ _ _ _ _ _ _ z.columns (λ i j. refl) z.rows (λ i j. refl) (e.exact h)

    exact1 : IsExactAt ring (suc n) (A (suc h)) (size (suc (suc (suc h)))) (A (suc (suc h)))
    exact1 = along _ _ _ _ _ _ _ _ z.rows (λ i j. refl) refl (λ i j. refl) (e.exact (suc h))

    exact2 : IsExactAt ring (size (suc (suc (suc h)))) (A (suc (suc h))) (size (suc (suc (suc (suc h))))) (A (suc (suc (suc h))))
    exact2 = e.exact (suc (suc h))

    zero_product : combine ring (suc m) (A (suc h) r) (A h) ≡ zeros ring
    zero_product =
        ap (λ x. combine ring (suc m) x (A h)) (sym (combine_unit laws r (suc n) (suc m) (A (suc h)) grid1 (under r (size' (suc (suc h))) z.row_in)))
        ∙ exact0.of_image (unit ring r) (unit_row laws r (suc n) (under r (size' (suc (suc h))) z.row_in))
      where
        under : (r n : ℕ) → r ≤ n → r < suc n
        under r n l = omega arith

    lower_sq : IsSquare ring (suc m) m (size h) (size h) (without_column laws n m (A (suc h)) grid1 r c z.row_in z.column_in w z.value z.unit_left z.unit_right) (unchanged ring (size h)) (A h) (λ i. A h (skip c i))
    lower_sq = lower_square laws n m (A (suc h)) grid1 r c z.row_in z.column_in w z.value z.unit_left z.unit_right (size h) (A h) (e.grid h) zero_product

    middle_sq : IsSquare ring (suc n) n (suc m) m (without_row laws n m (A (suc h)) grid1 r c z.row_in z.column_in w z.value z.unit_left z.unit_right)
        (without_column laws n m (A (suc h)) grid1 r c z.row_in z.column_in w z.value z.unit_left z.unit_right) (A (suc h)) (eliminated ring (A (suc h)) r c w)
    middle_sq = middle_square laws n m (A (suc h)) grid1 r c z.row_in z.column_in w z.value z.unit_left z.unit_right

    upper_sq : IsSquare ring (size (suc (suc (suc h)))) (size (suc (suc (suc h)))) (suc n) n (unchanged ring (size (suc (suc (suc h)))))
        (without_row laws n m (A (suc h)) grid1 r c z.row_in z.column_in w z.value z.unit_left z.unit_right) (A (suc (suc h))) (λ i j. A (suc (suc h)) i (skip r j))
    upper_sq = upper_square laws n m (A (suc h)) grid1 r c z.row_in z.column_in w z.value z.unit_left z.unit_right (size (suc (suc (suc h)))) (A (suc (suc h))) grid2 exact1.of_image

    trivial : (q l : ℕ) (B : ℕ → ℕ → R) → IsSquare ring q q l l (unchanged ring q) (unchanged ring l) B B
    trivial q l B = record { to = λ d h. refl; from = λ d h. refl }

    new_middle_grid : IsGrid ring m (eliminated ring (A (suc h)) r c w)
    new_middle_grid = new_grid laws n m (A (suc h)) grid1 r c z.row_in z.column_in w z.value z.unit_left z.unit_right

    -- the columns are not changed by dropping rows
    new_upper_grid : IsGrid ring n (λ i j. A (suc (suc h)) i (skip r j))
    new_upper_grid i = record {
      value = λ j. (grid2 i).value (skip r j);
      end = λ j l. ap (A (suc (suc h)) i) (skip_above r j (far r j z.row_in l)) ∙ (grid2 i).end (suc j) (more j l);
    }
      where
        far : (r j : ℕ) → r ≤ size' (suc (suc h)) → size' (suc (suc h)) ≤ j → r ≤ j
        far r j a b = omega arith

        more : (j : ℕ) → size' (suc (suc h)) ≤ j → suc (size' (suc (suc h))) ≤ suc j
        more j l = omega arith

    abbrev Exact' : ℕ → Type 0
    Exact' k = IsExactAt ring (size' (suc k)) (A' k) (size' (suc (suc k))) (A' (suc k))

    other_size : (k : ℕ) → k ≢ suc h → k ≢ suc (suc h) → size k ≡ size' k
    other_size = z.other_sizes

    away : (a b : ℕ) → a < b → b ≢ a
    away a b l e = omega arith

    three_more : (x : ℕ) → suc (suc (suc x)) ≢ suc x
    three_more x e = omega arith

    two_more : (x : ℕ) → suc (suc (suc x)) ≢ suc (suc x)
    two_more x e = omega arith

    four_three : (x : ℕ) → suc (suc (suc (suc x))) ≢ suc x
    four_three x e = omega arith

    four_two : (x : ℕ) → suc (suc (suc (suc x))) ≢ suc (suc x)
    four_two x e = omega arith

    three_none : (x : ℕ) → suc (suc (suc x)) ≢ x
    three_none x e = omega arith

    one_less : (x : ℕ) → x ≢ suc x
    one_less x e = omega arith

    two_less : (x : ℕ) → x ≢ suc (suc x)
    two_less x e = omega arith

    at_lower : Exact' h
    at_lower = along _ _ _ _ _ _ _ _ refl (λ i j. sym (z.lower i j)) refl (λ i j. sym (z.middle i j))
        (retract_exact laws (suc m) m (size h) (size h) (suc n) n (without_row laws n m (A (suc h)) grid1 r c z.row_in z.column_in w z.value z.unit_left z.unit_right)
        (without_column laws n m (A (suc h)) grid1 r c z.row_in z.column_in w z.value z.unit_left z.unit_right) (unchanged ring (size h)) (A h) (λ i. A h (skip c i)) (A (suc h)) (eliminated ring (A (suc h)) r c w)
        (λ i. e.grid h (skip c i)) new_middle_grid lower_sq middle_sq exact0)

    at_middle : Exact' (suc h)
    at_middle = along _ _ _ _ _ _ _ _ refl (λ i j. sym (z.middle i j)) (other_size (suc (suc (suc h))) (three_more h) (two_more h)) (λ i j. sym (z.upper i j))
        (retract_exact laws (suc n) n (suc m) m (size (suc (suc (suc h)))) (size (suc (suc (suc h)))) (unchanged ring (size (suc (suc (suc h)))))
        (without_row laws n m (A (suc h)) grid1 r c z.row_in z.column_in w z.value z.unit_left z.unit_right) (without_column laws n m (A (suc h)) grid1 r c z.row_in z.column_in w z.value z.unit_left z.unit_right)
        (A (suc h)) (eliminated ring (A (suc h)) r c w) (A (suc (suc h))) (λ i j. A (suc (suc h)) i (skip r j)) new_middle_grid new_upper_grid middle_sq upper_sq exact1)

    at_upper : Exact' (suc (suc h))
    at_upper = along _ _ _ _ _ _ _ _ (other_size (suc (suc (suc h))) (three_more h) (two_more h)) (λ i j. sym (z.upper i j))
        (other_size (suc (suc (suc (suc h)))) (four_three h) (four_two h)) (λ i j. z.others (suc (suc (suc h))) (three_none h) (two_more' h) (one_more h) i j)
        (retract_exact laws (size (suc (suc (suc h)))) (size (suc (suc (suc h)))) (suc n) n (size (suc (suc (suc (suc h))))) (size (suc (suc (suc (suc h)))))
        (unchanged ring (size (suc (suc (suc (suc h)))))) (unchanged ring (size (suc (suc (suc h))))) (without_row laws n m (A (suc h)) grid1 r c z.row_in z.column_in w z.value z.unit_left z.unit_right)
        (A (suc (suc h))) (λ i j. A (suc (suc h)) i (skip r j)) (A (suc (suc (suc h)))) (A (suc (suc (suc h)))) new_upper_grid (e.grid (suc (suc (suc h)))) upper_sq
        (trivial (size (suc (suc (suc (suc h))))) (size (suc (suc (suc h)))) (A (suc (suc (suc h))))) exact2)
      where
        two_more' : (x : ℕ) → suc (suc (suc x)) ≢ suc x
        two_more' x e = omega arith

        one_more : (x : ℕ) → suc (suc (suc x)) ≢ suc (suc x)
        one_more x e = omega arith

    at_before : (k : ℕ) → suc k ≡ h → Exact' k
    at_before k q = along _ _ _ _ _ _ _ _ (other_size h (one_less h) (two_less h) ∙ ap size' (sym q)) (λ i j. z.others k (less1 k h q) (less2 k h q) (less3 k h q) i j) (ap (λ x. size' (suc x)) (sym q))
        (λ i j. sym (z.lower i j) ∙ ap (λ x. A' x i j) (sym q))
        (retract_exact laws (size h) (size h) (size k) (size k) (suc m) m (without_column laws n m (A (suc h)) grid1 r c z.row_in z.column_in w z.value z.unit_left z.unit_right) (unchanged ring (size h))
        (unchanged ring (size k)) (A k) (A k) (A h) (λ i. A h (skip c i)) (e.grid k) (λ i. e.grid h (skip c i)) (trivial (size h) (size k) (A k)) lower_sq
        (along _ _ _ _ _ _ _ _ (ap size q) (λ i j. refl) (ap (λ x. size (suc x)) q ∙ z.columns) (λ i j. ap (λ x. A x i j) q) (e.exact k)))
      where
        less1 : (k h : ℕ) → suc k ≡ h → k ≢ h
        less1 k h q e = omega arith

        less2 : (k h : ℕ) → suc k ≡ h → k ≢ suc h
        less2 k h q e = omega arith

        less3 : (k h : ℕ) → suc k ≡ h → k ≢ suc (suc h)
        less3 k h q e = omega arith

    at_others : (k : ℕ) → k ≢ h → k ≢ suc h → k ≢ suc (suc h) → Exact' k
    at_others k a b d = pick (three_ways (suc k) h)
      where
        down : (x y : ℕ) → x ≢ y → suc x ≢ suc y
        down x y f e = f (omega arith)

        far : suc k ≢ h → Exact' k
        far f = along _ _ _ _ _ _ _ _ (other_size (suc k) (down k h a) (down k (suc h) b)) (λ i j. z.others k a b d i j) (other_size (suc (suc k)) (down (suc k) h f) (down (suc k) (suc h) (down k h a)))
            (λ i j. z.others (suc k) f (down k h a) (down k (suc h) b) i j) (e.exact k)

        pick : (suc k < h) ⊎ ((suc k ≡ h) ⊎ (h < suc k)) → Exact' k
        pick (inl l) = far (λ q. away (suc k) h l (sym q))
        pick (inr (inl q)) = at_before k q
        pick (inr (inr l)) = far (away h (suc k) l)

    -- The cancelled complex is exact.
    pub cancelled_exact : IsExactComplex ring size' A'
    cancelled_exact = record {
      grid = around (λ k. IsGrid ring (size' k) (A' k)) h (grid_along (size h) (size' h) (λ i. A h (skip c i)) (A' h) (other_size h (one_less h) (two_less h)) (λ i j. sym (z.lower i j)) (λ i. e.grid h (skip c i)))
          (grid_along m m (eliminated ring (A (suc h)) r c w) (A' (suc h)) refl (λ i j. sym (z.middle i j)) new_middle_grid)
          (grid_along n n (λ i j. A (suc (suc h)) i (skip r j)) (A' (suc (suc h))) refl (λ i j. sym (z.upper i j)) new_upper_grid)
          (λ k a b d. grid_along (size k) (size' k) (A k) (A' k) (other_size k b d) (λ i j. z.others k a b d i j) (e.grid k));
      exact = around Exact' h at_lower at_middle at_upper at_others;
    }
