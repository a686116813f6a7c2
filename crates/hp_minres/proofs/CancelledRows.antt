-- The rows of the maps after the cancellation of a unit entry: an exact homogeneous complex again.
use Rattle.std.specs.Prelude.{◌≡◌, ◌≢◌, ◌⊎◌, ℕ, zero, suc, ◌<◌, ◌≤◌, List, [], map, length, All, remove, replicate, drop, slice_index_or}
use Rattle.std.specs.List.Sorted.{IsNonDecreasing}
use Rattle.std.proofs.lemmas.List.{length-map, get_or-map}
use Rattle.std.proofs.lemmas.List.Edits.{length-remove}
use Rattle.std.proofs.lemmas.List.Elements.{All-nil, All-cons, All-drop}
use mathlib.Core.Logic.{inl, inr}
use mathlib.Core.Path.{refl, sym, ap, ◌∙◌, subst}
use native.Mathlib.Omega.{arith}
use Rattle.hp_algebra.specs.Ring.{RingOf, IsRing, IsCommutative, IsField}
use Rattle.hp_algebra.specs.Rows.{entry}
use Rattle.hp_algebra.proofs.Rings.{zero_mul}
use Rattle.hp_mono.specs.Monomials as mono
use Rattle.hp_mono.specs.Monomials.{Monomial, max_degree, vars}
use Rattle.hp_poly.specs.Polynomials.{Poly, IsInVariables, poly_ring}
use Rattle.hp_poly.specs.PolyRing.{poly_is_ring, poly_commutes}
use Rattle.hp_module.specs.Vectors.{Vector}
use Rattle.hp_module.proofs.ExchangedGenerators.{degree-zero}
use Rattle.hp_minres.specs.Grids.{skip, cell, eliminated, IsGrid}
use Rattle.hp_minres.specs.Reductions.{Rows, rows_at, level_size, level_degree, level_map, IsGradedExact, IsCancelledAt, IsUnitAt}
use Rattle.hp_minres.proofs.RangeSums.{three_ways, skip_range, skip_rises, skip_above, neg_zero}
use Rattle.hp_minres.proofs.GridRows.{at_end}
use Rattle.hp_minres.proofs.Cancellation.{new_grid}
use Rattle.hp_minres.proofs.CancelledComplexes.{around, IsExactComplex, IsCancelled, cancelled_exact}
use Rattle.hp_minres.proofs.MinimalComplexes.{removed_at}
use Rattle.hp_minres.proofs.GradedComplexes.{past, AreCancelledDegrees, cancelled_graded}
use Rattle.hp_minres.proofs.FirstVariablePolynomials.{eliminated_variables}

-- ---- lists of numbers

pub remove_rises : (xs : List ℕ) (r : ℕ) → r < length xs → IsNonDecreasing xs → IsNonDecreasing (remove xs r)
remove_rises xs r l h i j d a b =
    let n = length-remove xs r l in
    let m : suc (length (remove xs r)) ≡ length xs = omega (arith, n) in
    let inside = subst (λ k. skip r j < k) m (skip_range r (length (remove xs r)) j b) in
    subst (λ x. x ≤ slice_index_or (remove xs r) j d) (sym (removed_at xs r d i l))
    (subst (λ y. slice_index_or xs (skip r i) d ≤ y) (sym (removed_at xs r d j l)) (h (skip r i) (skip r j) d (skip_rises r i j a) inside))

module _ {F : Type 0} {ring : RingOf F} {inverse : F → F} (field : IsField ring inverse) where
  abbrev laws : IsRing ring
  laws = field.is_ring

  abbrev comm : IsCommutative ring
  comm = field.commutes

  abbrev PR : RingOf (Poly F)
  PR = poly_ring ring

  abbrev P : IsRing (poly_ring ring)
  P = poly_is_ring laws comm

  pub exact_complex : {width : ℕ} {maps : List (Rows F)} {degrees : List (List ℕ)} → IsGradedExact ring width maps degrees
      → IsExactComplex (poly_ring ring) (level_size width maps) (level_map ring maps)
  exact_complex x = record { grid = x.grid; exact = x.exact }

  -- a row without column r
  cut_at : (rows : Rows F) (n r : ℕ) → ((i : ℕ) → i < length rows → length (slice_index_or rows i []) ≡ n) → r < n
      → (i j : ℕ) → cell PR (map (λ row. remove row r) rows) i j ≡ cell PR rows i (skip r j)
  cut_at rows n r w l i j = pick (three_ways i (length rows))
    where
      out : length rows ≤ i → cell PR (map (λ row. remove row r) rows) i j ≡ cell PR rows i (skip r j)
      out b =
          let m = length-map rows (λ (row : Vector F). remove row r) in
          ap (λ (row : Vector F). entry PR row j) (past (map (λ row. remove row r) rows) i [] (omega (arith, m, b)))
          ∙ sym (ap (λ (row : Vector F). entry PR row (skip r j)) (past rows i [] b))

      pick : (i < length rows) ⊎ ((i ≡ length rows) ⊎ (length rows < i))
          → cell PR (map (λ row. remove row r) rows) i j ≡ cell PR rows i (skip r j)
      pick (inl b) =
          ap (λ (row : Vector F). entry PR row j) (get_or-map (λ (row : Vector F). remove row r) rows i [] [] b)
          ∙ removed_at (slice_index_or rows i []) r [] j (subst (λ k. r < k) (sym (w i b)) l)
      pick (inr (inl e)) = out (omega (arith, e))
      pick (inr (inr b)) = out (omega (arith, b))

  module _ (width : ℕ) (maps : List (Rows F)) (degrees : List (List ℕ)) (h r c : ℕ) (w : Poly F) (maps' : List (Rows F))
      (degrees' : List (List ℕ)) (x : IsGradedExact ring width maps degrees) (u : IsUnitAt ring maps degrees h r c w)
      (z : IsCancelledAt ring maps degrees h r c w maps' degrees') where
    abbrev size : ℕ → ℕ
    size = level_size width maps

    abbrev size' : ℕ → ℕ
    size' = level_size width maps'

    abbrev A : ℕ → ℕ → ℕ → Poly F
    A = level_map ring maps

    abbrev A' : ℕ → ℕ → ℕ → Poly F
    A' = level_map ring maps'

    fewer_rows : size (suc (suc h)) ≡ suc (size' (suc (suc h)))
    fewer_rows = let e = z.middle_rows in omega (arith, e)

    fewer_columns : size (suc h) ≡ suc (size' (suc h))
    fewer_columns =
        let e = ap length z.lower in
        let n = length-remove (rows_at maps h) c u.column_in in
        omega (arith, e, n)

    other_sizes : (k : ℕ) → k ≢ suc h → k ≢ suc (suc h) → size k ≡ size' k
    other_sizes zero a b = refl
    other_sizes (suc k) a b = pick (three_ways k (suc (suc h)))
      where
        far : k ≢ suc (suc h) → length (rows_at maps k) ≡ length (rows_at maps' k)
        far d = ap length (sym (z.others k (λ e. a (ap suc e)) (λ e. b (ap suc e)) d))

        pick : (k < suc (suc h)) ⊎ ((k ≡ suc (suc h)) ⊎ (suc (suc h) < k)) → length (rows_at maps k) ≡ length (rows_at maps' k)
        pick (inl l) = far (λ e. omega (arith, e, l))
        pick (inr (inl e)) =
            sym (ap (λ t. length (rows_at maps' t)) e ∙ ap length z.upper
            ∙ length-map (rows_at maps (suc (suc h))) (λ (row : Vector F). remove row r) ∙ ap (λ t. length (rows_at maps t)) (sym e))
        pick (inr (inr l)) = far (λ e. omega (arith, e, l))

    abbrev n : ℕ
    n = size' (suc (suc h))

    abbrev m : ℕ
    m = size' (suc h)

    unit_left : PR.mul (A (suc h) r c) w ≡ PR.one
    unit_left = poly_commutes laws comm (A (suc h) r c) w ((x.grid (suc h) r).value c) u.value ∙ u.inverse

    grid1 : IsGrid PR (suc m) (A (suc h))
    grid1 = subst (λ k. IsGrid PR k (A (suc h))) fewer_columns (x.grid (suc h))

    row_in : r ≤ n
    row_in = let a = u.row_in in let b = fewer_rows in omega (arith, a, b)

    column_in : c ≤ m
    column_in = let a = u.column_in in let b = fewer_columns in omega (arith, a, b)

    abbrev new : ℕ → ℕ → Poly F
    new = eliminated PR (A (suc h)) r c w

    new_columns : IsGrid PR m new
    new_columns = new_grid P n m (A (suc h)) grid1 r c row_in column_in w u.value unit_left u.inverse

    -- past the rows there is nothing
    new_end : (i j : ℕ) → n ≤ i → new i j ≡ []
    new_end i j l =
        let s : suc (length (rows_at maps' (suc h))) ≤ skip r i = subst (λ k. suc n ≤ k) (sym (skip_above r i (omega (arith, row_in, l)))) (omega (arith, l)) in
        let e = fewer_rows in
        let none : (t : ℕ) → A (suc h) (skip r i) t ≡ [] = λ t. ap (λ (row : Vector F). entry PR row t) (past (rows_at maps (suc h)) (skip r i) [] (omega (arith, s, e))) in
        let y = PR.mul w (A (suc h) r (skip c j)) in
        let vy = P.mul_value w _ u.value ((x.grid (suc h) r).value (skip c j)) in
        (λ t. PR.add (none (skip c j) t) (PR.neg (PR.mul (none c t) y)))
        ∙ ap (λ q. PR.add [] (PR.neg q)) (zero_mul P y vy) ∙ ap (PR.add []) (neg_zero P) ∙ P.add_zero [] P.zero_value

    middle : (i j : ℕ) → A' (suc h) i j ≡ new i j
    middle i j = pick (three_ways i n) (three_ways j m)
      where
        low : n ≤ i → A' (suc h) i j ≡ new i j
        low l = ap (λ (row : Vector F). entry PR row j) (past (rows_at maps' (suc h)) i [] l) ∙ sym (new_end i j l)

        right : i < n → m ≤ j → A' (suc h) i j ≡ new i j
        right a l =
            let e = z.middle_widths i a in
            let f = fewer_columns in
            at_end P (slice_index_or (rows_at maps' (suc h)) i []) j (omega (arith, e, f, l)) ∙ sym ((new_columns i).end j l)

        pick : (i < n) ⊎ ((i ≡ n) ⊎ (n < i)) → (j < m) ⊎ ((j ≡ m) ⊎ (m < j)) → A' (suc h) i j ≡ new i j
        pick (inl a) (inl b) = let f = fewer_columns in z.middle i j a (omega (arith, b, f))
        pick (inl a) (inr (inl b)) = right a (omega (arith, b))
        pick (inl a) (inr (inr b)) = right a (omega (arith, b))
        pick (inr (inl a)) d = low (omega (arith, a))
        pick (inr (inr a)) d = low (omega (arith, a))

    upper : (i j : ℕ) → A' (suc (suc h)) i j ≡ A (suc (suc h)) i (skip r j)
    upper i j = ap (λ (rows : Rows F). cell PR rows i j) z.upper
        ∙ cut_at (rows_at maps (suc (suc h))) (size (suc (suc h))) r (x.widths (suc (suc h))) u.row_in i j

    pub rows_cancelled : IsCancelled (poly_ring ring) (level_size width maps) (level_map ring maps) h r c w (level_size width maps') (level_map ring maps')
    rows_cancelled = record {
      rows = fewer_rows;
      columns = fewer_columns;
      other_sizes = other_sizes;
      row_in = row_in;
      column_in = column_in;
      value = u.value;
      unit_left = unit_left;
      unit_right = u.inverse;
      lower = λ i j. ap (λ (rows : Rows F). cell PR rows i j) z.lower
          ∙ ap (λ (row : Vector F). entry PR row j) (removed_at (rows_at maps h) c [] i u.column_in);
      middle = middle;
      upper = upper;
      others = λ k a b d i j. ap (λ (rows : Rows F). cell PR rows i j) (sym (z.others k a b d));
    }

    -- ---- degrees

    column_degree_in : c < length (slice_index_or degrees h [])
    column_degree_in = subst (λ k. c < k) (sym (x.lengths h)) u.column_in

    row_degree_in : r < length (slice_index_or degrees (suc h) [])
    row_degree_in = subst (λ k. r < k) (sym (x.lengths (suc h))) u.row_in

    pub degrees_cancelled : AreCancelledDegrees (level_degree degrees) h r c (level_degree degrees')
    degrees_cancelled = record {
      columns = λ j. ap (λ (ds : List ℕ). slice_index_or ds j 0) z.column_degrees ∙ removed_at (slice_index_or degrees h []) c 0 j column_degree_in;
      rows = λ i. ap (λ (ds : List ℕ). slice_index_or ds i 0) z.row_degrees ∙ removed_at (slice_index_or degrees (suc h) []) r 0 i row_degree_in;
      others = others;
    }
      where
        others : (k : ℕ) → k ≢ suc h → k ≢ suc (suc h) → (i : ℕ) → level_degree degrees' k i ≡ level_degree degrees k i
        others zero a b i = refl
        others (suc k) a b i = ap (λ (ds : List ℕ). slice_index_or ds i 0) (z.other_degrees k (λ e. a (ap suc e)) (λ e. b (ap suc e)))

    -- what holds of each list of degrees
    each_degrees : (Q : ℕ → List ℕ → Type 0) → Q h (remove (slice_index_or degrees h []) c) → Q (suc h) (remove (slice_index_or degrees (suc h) []) r)
        → ((k : ℕ) → k ≢ h → k ≢ suc h → Q k (slice_index_or degrees k [])) → (k : ℕ) → Q k (slice_index_or degrees' k [])
    each_degrees Q a b d = around (λ k. Q k (slice_index_or degrees' k [])) h (subst (Q h) (sym z.column_degrees) a)
        (subst (Q (suc h)) (sym z.row_degrees) b)
        (subst (Q (suc (suc h))) (sym (z.other_degrees (suc (suc h)) (λ e. omega (arith, e)) (λ e. omega (arith, e))))
        (d (suc (suc h)) (λ e. omega (arith, e)) (λ e. omega (arith, e))))
        (λ k p q s. subst (Q k) (sym (z.other_degrees k p q)) (d k p q))

    low : (k i : ℕ) → level_degree degrees' k i ≤ max_degree
    low zero i = omega arith
    low (suc k) i = each_degrees (λ k ds. slice_index_or ds i 0 ≤ max_degree)
        (subst (λ d. d ≤ max_degree) (sym (removed_at (slice_index_or degrees h []) c 0 i column_degree_in)) (x.low (suc h) (skip c i)))
        (subst (λ d. d ≤ max_degree) (sym (removed_at (slice_index_or degrees (suc h) []) r 0 i row_degree_in)) (x.low (suc (suc h)) (skip r i)))
        (λ k p q. x.low (suc k) i) k

    lengths : (k : ℕ) → length (slice_index_or degrees' k []) ≡ length (rows_at maps' k)
    lengths = each_degrees (λ k ds. length ds ≡ length (rows_at maps' k))
        (let a = length-remove (slice_index_or degrees h []) c column_degree_in in let b = fewer_columns in let e = x.lengths h in omega (arith, a, b, e))
        (let a = length-remove (slice_index_or degrees (suc h) []) r row_degree_in in let b = fewer_rows in let e = x.lengths (suc h) in omega (arith, a, b, e))
        (λ k p q. x.lengths k ∙ other_sizes (suc k) (λ e. p (omega (arith, e))) (λ e. q (omega (arith, e))))

    in_order : (k : ℕ) → IsNonDecreasing (slice_index_or degrees' k [])
    in_order = each_degrees (λ k ds. IsNonDecreasing ds) (remove_rises _ c column_degree_in (x.in_order h))
        (remove_rises _ r row_degree_in (x.in_order (suc h))) (λ k p q. x.in_order k)

    -- ---- widths and variables

    widths : (k i : ℕ) → i < length (rows_at maps' k) → length (slice_index_or (rows_at maps' k) i []) ≡ size' k
    widths = around (λ k. (i : ℕ) → i < length (rows_at maps' k) → length (slice_index_or (rows_at maps' k) i []) ≡ size' k) h at_lower at_middle at_upper at_others
      where
        at_lower : (i : ℕ) → i < length (rows_at maps' h) → length (slice_index_or (rows_at maps' h) i []) ≡ size' h
        at_lower i l =
            ap length (ap (λ (rows : Rows F). slice_index_or rows i []) z.lower ∙ removed_at (rows_at maps h) c [] i u.column_in)
            ∙ x.widths h (skip c i) (subst (λ k. skip c i < k) (sym fewer_columns) (skip_range c m i l))
            ∙ other_sizes h (λ e. omega (arith, e)) (λ e. omega (arith, e))

        at_middle : (i : ℕ) → i < length (rows_at maps' (suc h)) → length (slice_index_or (rows_at maps' (suc h)) i []) ≡ size' (suc h)
        at_middle i l = let a = z.middle_widths i l in let b = fewer_columns in omega (arith, a, b)

        at_upper : (i : ℕ) → i < length (rows_at maps' (suc (suc h))) → length (slice_index_or (rows_at maps' (suc (suc h))) i []) ≡ size' (suc (suc h))
        at_upper i l =
            let e = ap length z.upper ∙ length-map (rows_at maps (suc (suc h))) (λ (row : Vector F). remove row r) in
            let b : i < length (rows_at maps (suc (suc h))) = omega (arith, e, l) in
            let row = slice_index_or (rows_at maps (suc (suc h))) i [] in
            let old = x.widths (suc (suc h)) i b in
            let a = length-remove row r (subst (λ k. r < k) (sym old) u.row_in) in
            let f = fewer_rows in
            let here : slice_index_or (rows_at maps' (suc (suc h))) i [] ≡ remove row r =
            ap (λ (rows : Rows F). slice_index_or rows i []) z.upper ∙ get_or-map (λ (row : Vector F). remove row r) (rows_at maps (suc (suc h))) i [] [] b in
            ap length here ∙ omega (arith, a, f, old)

        at_others : (k : ℕ) → k ≢ h → k ≢ suc h → k ≢ suc (suc h) → (i : ℕ) → i < length (rows_at maps' k) → length (slice_index_or (rows_at maps' k) i []) ≡ size' k
        at_others k a b d i l =
            let e = z.others k a b d in
            let len = ap length e in
            ap (λ (rows : Rows F). length (slice_index_or rows i [])) e ∙ x.widths k i (omega (arith, len, l))
            ∙ other_sizes k b d

    in_variables : IsInVariables ring width w
    in_variables = (
      u.value,
      λ i t l.
          subst (λ (m : Monomial). All (λ (e : ℕ). e ≡ 0) (drop width m)) (sym (degree-zero (slice_index_or w i t).0 (u.value.monomials i t l) (u.constant i t l)))
          (All-drop (λ e. e ≡ 0) width mono.one (zeros_one vars)),
    )
      where
        zeros_one : (k : ℕ) → All (λ (e : ℕ). e ≡ 0) (replicate k 0)
        zeros_one zero = All-nil (λ e. e ≡ 0)
        zeros_one (suc k) = All-cons (λ e. e ≡ 0) 0 (replicate k 0) refl (zeros_one k)

    variables : (k i j : ℕ) → IsInVariables ring width (A' k i j)
    variables =
        let q = rows_cancelled in
        around (λ k. (i j : ℕ) → IsInVariables ring width (A' k i j)) h
        (λ i j. subst (IsInVariables ring width) (sym (q.lower i j)) (x.variables h (skip c i) j))
        (λ i j. subst (IsInVariables ring width) (sym (q.middle i j)) (eliminated_variables laws comm width (A (suc h)) r c w (x.variables (suc h)) in_variables i j))
        (λ i j. subst (IsInVariables ring width) (sym (q.upper i j)) (x.variables (suc (suc h)) i (skip r j)))
        (λ k a b d i j. subst (IsInVariables ring width) (q.others k a b d i j) (x.variables k i j))

    -- Cancelling a unit keeps the complex exact and homogeneous.
    pub cancelled_graded_exact : IsGradedExact ring width maps' degrees'
    cancelled_graded_exact =
        let e = cancelled_exact P size A (exact_complex x) h r c w size' A' rows_cancelled in
        record {
          one_each = z.degree_count ∙ x.one_each ∙ sym z.same_count;
          lengths = lengths;
          widths = widths;
          grid = e.grid;
          exact = e.exact;
          steps = cancelled_graded laws comm size A (exact_complex x) h r c w size' A' rows_cancelled (level_degree degrees) (level_degree degrees') x.steps u.same_degree u.constant degrees_cancelled;
          low = low;
          variables = variables;
          in_order = in_order;
        }
