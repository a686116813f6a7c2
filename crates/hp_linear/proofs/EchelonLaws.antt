-- What a reduced row echelon form gives: its rows are independent, their number is the rank, and it decides membership in the row space.
use Rattle.std.proofs.Common.{◌≡◌, ◌↔◌, ℕ, zero, suc, ◌-◌, ◌<◌, ◌==◌, cond, List, [], ◌∷◌, map, length, All, get_or, refl, sym, ap, subst, ◌∙◌, arith}
use Rattle.std.proofs.lemmas.Bool.{eq-eqb, ne_eqb}
use Rattle.std.proofs.lemmas.Option.{slice_get-get_or}
use Rattle.hp_algebra.specs.Ring.{RingOf, IsRing}
use Rattle.hp_algebra.specs.Rows.{IsRow, entry, row_times}
use Rattle.hp_linear.specs.Spaces.{IsCombination, AreIndependent}
use Rattle.hp_linear.specs.Matrices.{Matrix, IsRank, IsInRowSpace, IsEchelonForm}
use Rattle.hp_linear.specs.Echelon.{PivotRow, rows_of}
use Rattle.hp_linear.proofs.Combinations.{span-member}
use Rattle.hp_linear.proofs.Units.{HaveUnitColumns, units-independent, in_span-test}

-- the rows with the columns of their pivots, counted from 0
pivoted : {R : Type 0} → List (List R) → List ℕ → List (PivotRow R)
pivoted [] pivots = []
pivoted (row ∷ rows) [] = []
pivoted (row ∷ rows) (c ∷ pivots) = record { column = c - 1; entries = row } ∷ pivoted rows pivots

length-pivoted : {R : Type 0} (rows : List (List R)) (pivots : List ℕ) → length pivots ≡ length rows
    → length (pivoted rows pivots) ≡ length rows
unfolding pivoted
length-pivoted [] pivots e = refl
length-pivoted (row ∷ rows) [] e = absurd (omega (arith, e))
length-pivoted (row ∷ rows) (c ∷ pivots) e = ap (λ n. suc n) (length-pivoted rows pivots (omega (arith, e)))

get_or-pivoted : {R : Type 0} (rows : List (List R)) (pivots : List ℕ) (k : ℕ) (d : PivotRow R) (x : List R)
    → length pivots ≡ length rows → k < length rows
    → get_or (pivoted rows pivots) k d ≡ record { column = get_or pivots k 0 - 1; entries = get_or rows k x }
unfolding pivoted
get_or-pivoted [] pivots k d x e l = absurd (omega arith)
get_or-pivoted (row ∷ rows) [] k d x e l = absurd (omega (arith, e))
get_or-pivoted (row ∷ rows) (c ∷ pivots) zero d x e l = refl
get_or-pivoted (row ∷ rows) (c ∷ pivots) (suc k) d x e l = get_or-pivoted rows pivots k d x (omega (arith, e)) (omega arith)

module _ {R : Type 0} (ring : RingOf R) where
  rows-pivoted : (rows : List (List R)) (pivots : List ℕ) → length pivots ≡ length rows
      → rows_of ring (pivoted rows pivots) ≡ rows
  unfolding pivoted
  rows-pivoted [] pivots e = refl
  rows-pivoted (row ∷ rows) [] e = absurd (omega (arith, e))
  rows-pivoted (row ∷ rows) (c ∷ pivots) e = ap (λ rs. row ∷ rs) (rows-pivoted rows pivots (omega (arith, e)))

  -- the entries of a row at the pivots
  abbrev pub at_pivots : List ℕ → List R → List R
  at_pivots pivots v = map (λ c. entry ring v (c - 1)) pivots

  at-pivoted : (rows : List (List R)) (pivots : List ℕ) (v : List R) → length pivots ≡ length rows
      → map (λ p. entry ring v p.column) (pivoted rows pivots) ≡ at_pivots pivots v
  unfolding pivoted
  at-pivoted [] [] v e = refl
  at-pivoted [] (c ∷ pivots) v e = absurd (omega (arith, e))
  at-pivoted (row ∷ rows) [] v e = absurd (omega (arith, e))
  at-pivoted (row ∷ rows) (c ∷ pivots) v e = ap (λ rs. entry ring v (c - 1) ∷ rs) (at-pivoted rows pivots v (omega (arith, e)))

module _ {R : Type 0} {ring : RingOf R} (laws : IsRing ring) (m e : Matrix R) (pivots : List ℕ) (is : IsEchelonForm ring m e pivots) where
  form-units : HaveUnitColumns laws e.cols (pivoted e.rows pivots)
  form-units = record {
    are = subst (All (IsRow ring e.cols)) (sym (rows-pivoted ring e.rows pivots is.one_each)) is.matrix;
    inside = λ k d l. inside k d (in_rows k l);
    one = λ k d l. at k k d (in_rows k l) (in_rows k l) ∙ ap (λ t. cond t ring.one ring.zero) (eq-eqb k k refl);
    others = λ h k d lh lk ne. at h k d (in_rows h lh) (in_rows k lk) ∙ ap (λ t. cond t ring.one ring.zero) (ne_eqb h k ne);
  }
    where
      in_rows : (k : ℕ) → k < length (pivoted e.rows pivots) → k < length e.rows
      in_rows k l = subst (λ n. k < n) (length-pivoted e.rows pivots is.one_each) l

      inside : (k : ℕ) (d : PivotRow R) → k < length e.rows → (get_or (pivoted e.rows pivots) k d).column < e.cols
      inside k d l =
          let q = is.in_range k 0 (subst (λ n. k < n) (sym is.one_each) l) in
          subst (λ (p : PivotRow R). p.column < e.cols) (sym (get_or-pivoted e.rows pivots k d [] is.one_each l)) (omega (arith, q.0, q.1))

      at : (h k : ℕ) (d : PivotRow R) → h < length e.rows → k < length e.rows
          → entry ring (get_or (pivoted e.rows pivots) h d).entries (get_or (pivoted e.rows pivots) k d).column
          ≡ cond (h == k) ring.one ring.zero
      at h k d lh lk =
          (λ i. entry ring (get_or-pivoted e.rows pivots h d [] is.one_each lh i).entries (get_or-pivoted e.rows pivots k d [] is.one_each lk i).column)
          ∙ is.unit k h (get_or pivots k 0) (get_or e.rows h []) (slice_get-get_or e.rows h [] lh) (slice_get-get_or pivots k 0 (subst (λ n. k < n) (sym is.one_each) lk))

  -- The rows of an echelon form are independent.
  pub echelon-independent : AreIndependent ring e.cols e.rows
  echelon-independent = subst (AreIndependent ring e.cols) (rows-pivoted ring e.rows pivots is.one_each) (units-independent laws e.cols (pivoted e.rows pivots) form-units)

  -- The rank is the number of its rows.
  pub echelon-rank : IsRank ring m (length e.rows)
  echelon-rank = (
    e.rows,
    record {
      members = λ v c. (is.same_space v).1 (subst (λ n. IsCombination ring n e.rows v) is.cols (span-member laws e.cols e.rows v is.matrix c));
      spanning = λ v c. (is.same_space v).0 c;
      independent = subst (λ n. AreIndependent ring n e.rows) is.cols echelon-independent;
    },
    refl,
  )

  -- A row is in the row space exactly where it is the combination with its entries at the pivots: this is what a reduction tests.
  pub echelon-member : (v : List R) → IsRow ring m.cols v
      → IsInRowSpace ring m v ↔ (v ≡ row_times ring m.cols (at_pivots ring pivots v) e.rows)
  echelon-member v r =
      let kept = pivoted e.rows pivots in
      let rows = rows-pivoted ring e.rows pivots is.one_each in
      let test = in_span-test laws e.cols kept form-units v (subst (λ n. IsRow ring n v) (sym is.cols) r) in
      let whole : row_times ring e.cols (map (λ p. entry ring v p.column) kept) (rows_of ring kept) ≡ row_times ring m.cols (at_pivots ring pivots v) e.rows =
      λ i. row_times ring (is.cols i) (at-pivoted ring e.rows pivots v is.one_each i) (rows i) in (
        λ c. test.0 (subst (λ rs. IsCombination ring e.cols rs v) (sym rows) (subst (λ n. IsCombination ring n e.rows v) (sym is.cols) ((is.same_space v).0 c))) ∙ whole,
        λ q. (is.same_space v).1 (subst (λ n. IsCombination ring n e.rows v) is.cols (subst (λ rs. IsCombination ring e.cols rs v) rows (test.1 (q ∙ sym whole)))),
      )
