-- Solutions of M c = b by the matrix with b as one more column.
use Rattle.std.proofs.Common.{◌≡◌, ◌≢◌, ◌⊎◌, ℕ, zero, suc, ◌+◌, ◌<◌, List, [], ◌∷◌, ◌++◌, map, length, take, All, Contains, get_or, refl, sym, ap, subst, ◌∙◌, arith, inl, inr}
use Rattle.std.proofs.lemmas.List.{get_or-map, get_or-replicate, length-append, take_more, take_all, length-take-le}
use Rattle.std.proofs.lemmas.List.Elements.{All-nil, All-cons, All-head, All-tail, All-append, All-take}
use Rattle.hp_algebra.specs.Ring.{RingOf, IsRing, IsCommutative, dot_of}
use Rattle.hp_algebra.proofs.Rings.{mul_zero, zero_mul, add_cancel}
use Rattle.hp_algebra.proofs.Dots.{dot_of_value, dot_of-push, dot-scale, dot-single, dot-comm, map-zeros}
use Rattle.hp_algebra.specs.Rows.{IsRow, entry, zero_row, row_scale}
use Rattle.hp_linear.specs.Spaces.{HaveSameSpan}
use Rattle.hp_linear.specs.Matrices.{Matrix, IsMatrix, IsKernelMember, IsSolution, matrix_times, joined, with_column}
use Rattle.hp_linear.specs.Echelon.{PivotRow, IsReduced, IsFreeSolution, rows_of}
use Rattle.hp_lists.proofs.Members.{Contains-here, Contains-later, Contains-cases, Contains-none}
use Rattle.hp_algebra.proofs.Rows.{scale-row, entry-value}
use Rattle.hp_linear.proofs.Kernels.{free-solves, kernel-from, kernel-to}

module _ {R : Type 0} (ring : RingOf R) where
  pub length-joined : (rows others : List (List R)) → length rows ≡ length others
      → length (joined ring rows others) ≡ length rows
  length-joined [] others e = refl
  length-joined (a ∷ rows) [] e = absurd (omega (arith, e))
  length-joined (a ∷ rows) (b ∷ others) e = ap (λ n. suc n) (length-joined rows others (omega (arith, e)))

  pub get_or-joined : (rows others : List (List R)) (k : ℕ) (d x y : List R) → length rows ≡ length others
      → k < length rows → get_or (joined ring rows others) k d ≡ get_or rows k x ++ get_or others k y
  get_or-joined [] others k d x y e l = absurd (omega arith)
  get_or-joined (a ∷ rows) [] k d x y e l = absurd (omega (arith, e))
  get_or-joined (a ∷ rows) (b ∷ others) zero d x y e l = refl
  get_or-joined (a ∷ rows) (b ∷ others) (suc k) d x y e l = get_or-joined rows others k d x y (omega (arith, e)) (omega arith)

  -- the last of a row with one more entry
  pub entry-last : (a : List R) (x : R) → entry ring (a ++ x ∷ []) (length a) ≡ x
  entry-last [] x = refl
  entry-last (y ∷ a) x = entry-last a x

module _ {R : Type 0} {ring : RingOf R} (laws : IsRing ring) where
  pub row-push : (width : ℕ) (a : List R) (x : R) → IsRow ring width a → ring.IsValue x
      → IsRow ring (width + 1) (a ++ x ∷ [])
  row-push width a x r v = (length-append a (x ∷ []) ∙ ap (λ n. n + 1) r.0, All-append ring.IsValue a (x ∷ []) r.1 (All-cons ring.IsValue x [] v (All-nil ring.IsValue)))

  -- (-1) d = x where d + x = 0
  negated : (d x : R) → ring.IsValue d → ring.IsValue x → ring.add d x ≡ ring.zero → ring.mul (ring.neg ring.one) d ≡ x
  negated d x vd vx e =
      let n = ring.neg ring.one in
      let vn = laws.neg_value _ laws.one_value in
      add_cancel laws d _ x vd (laws.mul_value n d vn vd) vx
      (ap (λ s. ring.add s (ring.mul n d)) (sym (laws.one_mul d vd)) ∙ sym (laws.add_mul ring.one n d laws.one_value vn vd) ∙ ap (λ s. ring.mul s d) (laws.add_neg _ laws.one_value) ∙ zero_mul laws d vd ∙ sym e)

  -- what solves the rows with b and has 1 at its end, gives the solution
  pub solved : IsCommutative ring → (width : ℕ) (rows : List (List R)) (b w : List R) → length rows ≡ length b
      → All (IsRow ring width) rows → All ring.IsValue b → IsRow ring width w
      → ((z : List R) → Contains (joined ring rows (map (λ x. x ∷ []) b)) z → dot_of ring z (w ++ ring.one ∷ []) ≡ ring.zero)
      → map (λ row. dot_of ring row (row_scale ring (ring.neg ring.one) w)) rows ≡ b
  solved comm width [] [] w e are v r h = refl
  solved comm width [] (x ∷ b) w e are v r h = absurd (omega (arith, e))
  solved comm width (a ∷ rows) [] w e are v r h = absurd (omega (arith, e))
  solved comm width (a ∷ rows) (x ∷ b) w e are v r h =
      let ra = All-head (IsRow ring width) a rows are in
      let vx = All-head ring.IsValue x b v in
      let vn = laws.neg_value _ laws.one_value in
      let vd = dot_of_value laws a w ra.1 r.1 in
      let sum : ring.add (dot_of ring a w) x ≡ ring.zero =
      ap (ring.add (dot_of ring a w)) (sym (laws.mul_one x vx)) ∙ sym (dot_of-push laws a w x ring.one (ra.0 ∙ sym r.0) ra.1 r.1 vx laws.one_value) ∙ h (a ++ x ∷ []) (Contains-here _ _) in
      let first : dot_of ring a (row_scale ring (ring.neg ring.one) w) ≡ x =
      dot-comm laws comm a _ ra.1 (scale-row laws width _ w vn r).1 ∙ dot-scale laws _ w a vn r.1 ra.1 ∙ ap (ring.mul (ring.neg ring.one)) (dot-comm laws comm w a r.1 ra.1)
      ∙ negated (dot_of ring a w) x vd vx sum in
      let rest = solved comm width rows b w (omega (arith, e)) (All-tail (IsRow ring width) a rows are) (All-tail ring.IsValue x b v) r (λ z c. h z (Contains-later _ _ z c)) in
      λ i. first i ∷ rest i

  -- the rows with their products with c are zero at c followed by -1
  pub joined-zero : (width : ℕ) (rows : List (List R)) (c : List R) → All (IsRow ring width) rows → IsRow ring width c
      → (z : List R) → Contains (joined ring rows (map (λ x. x ∷ []) (map (λ row. dot_of ring row c) rows))) z
      → dot_of ring z (c ++ ring.neg ring.one ∷ []) ≡ ring.zero
  joined-zero width [] c are r z i = absurd (Contains-none z i)
  joined-zero width (a ∷ rows) c are r z i = step (joined-zero width rows c (All-tail (IsRow ring width) a rows are) r z) (Contains-cases _ _ z i)
    where
      step : (Contains (joined ring rows (map (λ x. x ∷ []) (map (λ row. dot_of ring row c) rows))) z → dot_of ring z (c ++ ring.neg ring.one ∷ []) ≡ ring.zero)
          → ((a ++ dot_of ring a c ∷ []) ≡ z)
          ⊎ Contains (joined ring rows (map (λ x. x ∷ []) (map (λ row. dot_of ring row c) rows))) z
          → dot_of ring z (c ++ ring.neg ring.one ∷ []) ≡ ring.zero
      step ih (inr d) = ih d
      step ih (inl e) =
          let ra = All-head (IsRow ring width) a rows are in
          let vd = dot_of_value laws a c ra.1 r.1 in
          let vn = laws.neg_value _ laws.one_value in
          ap (λ s. dot_of ring s (c ++ ring.neg ring.one ∷ [])) (sym e)
          ∙ dot_of-push laws a c (dot_of ring a c) (ring.neg ring.one) (ra.0 ∙ sym r.0) ra.1 r.1 vd vn
          ∙ ap (λ s. ring.add s (ring.mul (dot_of ring a c) (ring.neg ring.one))) (sym (laws.mul_one _ vd))
          ∙ sym (laws.mul_add _ _ _ vd laws.one_value vn) ∙ ap (ring.mul (dot_of ring a c)) (laws.add_neg _ laws.one_value) ∙ mul_zero laws _ vd

  module _ (comm : IsCommutative ring) (m : Matrix R) (b : List R) (kept : List (PivotRow R)) (are : IsMatrix ring m) (values : All ring.IsValue b) (long : length b ≡ length m.rows)
      (extended : IsMatrix ring (with_column ring m b)) (is : IsReduced ring (m.cols + 1) kept) (same : HaveSameSpan ring (m.cols + 1) (joined ring m.rows (map (λ x. x ∷ []) b)) (rows_of ring kept)) where
    -- without a pivot in the last column there is a solution
    pub solution-from : (v : List R) → ((p : PivotRow R) → Contains kept p → p.column ≢ m.cols)
        → IsFreeSolution ring (m.cols + 1) kept m.cols v
        → IsSolution ring m b (row_scale ring (ring.neg ring.one) (take m.cols v))
    solution-from v apart free =
        let n = m.cols in
        let wide : length v ≡ n + 1 = free.is_row.0 in
        let w = take n v in
        let rw' : IsRow ring n w = (length-take-le n v (omega (arith, wide)), All-take ring.IsValue n v free.is_row.1) in
        let whole : v ≡ w ++ ring.one ∷ [] =
        sym (take_all (n + 1) v (omega (arith, wide))) ∙ take_more v n ring.zero (omega (arith, wide)) ∙ ap (λ x. w ++ x ∷ []) free.one in
        let member = kernel-from laws comm (with_column ring m b) kept kept extended is same v free.is_row (λ p c. free-solves laws (n + 1) n kept v p is (omega arith) apart free c) in (
          scale-row laws n _ w (laws.neg_value _ laws.one_value) rw',
          solved comm n m.rows b w (sym long) are values rw' (λ z c. ap (dot_of ring z) (sym whole) ∙ at z c member.1),
        )
      where
        at : (z : List R) → Contains (joined ring m.rows (map (λ x. x ∷ []) b)) z
            → matrix_times ring (with_column ring m b) v
            ≡ zero_row ring (length (joined ring m.rows (map (λ x. x ∷ []) b))) → dot_of ring z v ≡ ring.zero
        at z (k, l, q) e =
            ap (λ s. dot_of ring s v) (sym q) ∙ sym (get_or-map (λ row. dot_of ring row v) (joined ring m.rows (map (λ x. x ∷ []) b)) k z ring.zero l) ∙ ap (λ s. get_or s k ring.zero) e
            ∙ get_or-replicate _ k ring.zero ring.zero l

    -- with one there is none
    pub solution-none : (p : PivotRow R) (c : List R) → ring.one ≢ ring.zero → Contains kept p → p.column ≡ m.cols
        → IsSolution ring m b c → ⊥
    solution-none p c proper in_kept at (r, e) =
        let n = m.cols in
        let vn = laws.neg_value _ laws.one_value in
        let x = c ++ ring.neg ring.one ∷ [] in
        let rx = row-push n c (ring.neg ring.one) r vn in
        let ip = is.each p in_kept in
        let zeros : (z : List R) → Contains (joined ring m.rows (map (λ x. x ∷ []) b)) z → dot_of ring z x ≡ ring.zero =
        subst (λ (s : List R). (z : List R) → Contains (joined ring m.rows (map (λ x. x ∷ []) s)) z → dot_of ring z x ≡ ring.zero) e (joined-zero n m.rows c are r) in
        let member : IsKernelMember ring (with_column ring m b) x = (rx, map-zeros laws (λ row. dot_of ring row x) (joined ring m.rows (map (λ x. x ∷ []) b)) zeros) in
        let last : entry ring x p.column ≡ ring.neg ring.one = ap (entry ring x) (at ∙ sym r.0) ∙ entry-last ring c (ring.neg ring.one) in
        let none : ring.neg ring.one ≡ ring.zero =
        sym (laws.one_mul _ vn) ∙ (λ i. ring.mul (sym ip.one i) (sym last i))
        ∙ sym (dot-single laws (n + 1) p.entries x p.column ip.row rx ip.inside (λ j l ne. ap (λ s. ring.mul s (entry ring x j)) (ip.first j (before j l ne)) ∙ zero_mul laws _ (entry-value laws (n + 1) x j l rx)))
        ∙ kernel-to laws comm (with_column ring m b) kept kept extended is same x member p in_kept in
        proper (sym (laws.add_zero _ laws.one_value) ∙ ap (ring.add ring.one) (sym none) ∙ laws.add_neg _ laws.one_value)
      where
        before : (j : ℕ) → j < m.cols + 1 → j ≢ p.column → j < p.column
        before j l ne = omega (arith, at)
