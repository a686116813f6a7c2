-- A row vector times a matrix, entry by entry: where it is zero.
use Rattle.std.proofs.Common.{◌≡◌, ◌⊎◌, ℕ, ◌+◌, ◌<◌, List, map, length, All, get_or, drop, refl, sym, ap, ◌∙◌, inl, inr}
use Rattle.std.proofs.lemmas.List.{drop_more}
use Rattle.hp_algebra.specs.Ring.{RingOf, IsRing, dot_of}
use Rattle.hp_algebra.specs.Rows.{entry, zero_row}
use Rattle.hp_algebra.proofs.Rings.{zero_add, mul_zero, zero_mul}
use Rattle.hp_algebra.proofs.Rows.{zero_row-ext, entry-zeros}
use Rattle.hp_linear.specs.Matrices.{Matrix, IsMatrix}
use Rattle.hp_linear.proofs.Combinations.{times-row, entry-times}
use Rattle.hp_complex.specs.Complexes.{times_matrix}

module _ {R : Type 0} (ring : RingOf R) where
  -- c times column j, from row k on
  abbrev pub column_sum : List R → List (List R) → ℕ → ℕ → R
  column_sum c rows j k = dot_of ring (drop k c) (map (λ row. entry ring row j) (drop k rows))

  -- one more product in front
  pub column_sum-more : (c : List R) (rows : List (List R)) (j k : ℕ) (x : R) (row : List R) → k < length c
      → k < length rows
      → column_sum c rows j k
      ≡ ring.add (ring.mul (get_or c k x) (entry ring (get_or rows k row) j)) (column_sum c rows j (k + 1))
  column_sum-more c rows j k x row h l = rw (drop_more c k x h, drop_more rows k row l) refl

module _ {R : Type 0} {ring : RingOf R} (laws : IsRing ring) where
  -- a product with a factor zero adds nothing
  pub add-nothing : (c x sum : R) → ring.IsValue c → ring.IsValue x → ring.IsValue sum
      → (c ≡ ring.zero) ⊎ (x ≡ ring.zero) → sum ≡ ring.add (ring.mul c x) sum
  add-nothing c x sum vc vx vs (inl e) =
      sym (ap (λ y. ring.add (ring.mul y x) sum) e ∙ ap (λ y. ring.add y sum) (zero_mul laws x vx) ∙ zero_add laws sum vs)
  add-nothing c x sum vc vx vs (inr e) =
      sym (ap (λ y. ring.add (ring.mul c y) sum) e ∙ ap (λ y. ring.add y sum) (mul_zero laws c vc) ∙ zero_add laws sum vs)

  module _ (m : Matrix R) (c : List R) (is : IsMatrix ring m) (values : All ring.IsValue c) where
    pub product-zero : ((j : ℕ) → j < m.cols → column_sum ring c m.rows j 0 ≡ ring.zero)
        → times_matrix ring c m ≡ zero_row ring m.cols
    product-zero h = zero_row-ext laws m.cols _ (times-row laws m.cols c m.rows values is).0 (λ j l. entry-times laws m.cols c m.rows j l values is ∙ h j l)

    pub zero-product : times_matrix ring c m ≡ zero_row ring m.cols → (j : ℕ) → j < m.cols
        → column_sum ring c m.rows j 0 ≡ ring.zero
    zero-product e j l = sym (entry-times laws m.cols c m.rows j l values is) ∙ ap (λ row. entry ring row j) e ∙ entry-zeros laws m.cols j l
