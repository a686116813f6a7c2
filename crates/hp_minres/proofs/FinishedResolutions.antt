-- A reduced complex without its empty maps is a minimal resolution.
use Rattle.std.specs.Prelude.{◌≡◌, ◌⊎◌, ℕ, zero, suc, ◌+◌, ◌-◌, ◌<◌, ◌≤◌, List, [], ◌∷◌, length, All, remove, replicate, take, slice_index_or}
use Rattle.std.specs.List.Sorted.{IsNonDecreasing}
use Rattle.std.proofs.lemmas.List.{get_or_default, get_or-replicate, get_or-take, length-take}
use Rattle.std.proofs.lemmas.List.Edits.{length-remove}
use mathlib.Core.Logic.{inl, inr}
use mathlib.Core.Path.{refl, sym, ap, ◌∙◌, subst}
use native.Mathlib.Omega.{arith}
use Rattle.hp_algebra.specs.Ring.{RingOf, IsRing, IsCommutative, IsField}
use Rattle.hp_algebra.specs.Rows.{IsRow, entry}
use Rattle.hp_linear.specs.Matrices.{Matrix, IsMatrix}
use Rattle.hp_linear.specs.Spaces.{IsCombination}
use Rattle.hp_complex.specs.Complexes.{map_at, AreMaps, IsExact}
use Rattle.hp_mono.specs.Monomials.{max_degree, vars, degree}
use Rattle.hp_poly.specs.Polynomials.{Poly, IsInVariables, poly_ring, constant}
use Rattle.hp_poly.specs.PolyRing.{poly_is_ring}
use Rattle.hp_poly.proofs.Evaluation.{value_constant}
use Rattle.hp_module.specs.Vectors.{Vector, IsVector}
use Rattle.hp_module.proofs.EntryTerms.{graded_all}
use Rattle.hp_resolution.specs.Resolutions.{Resolution, HasDegrees, HasNoRedundantRow, IsFrame, IsInFirstVariables, IsMinimalResolution, IsResolution, column_degrees, row_at, row_degrees}
use Rattle.hp_minres.specs.Grids.{skip, cell, IsGrid, IsExactAt}
use Rattle.hp_minres.specs.Reductions.{Rows, map_size, rows_at, level_size, level_degree, level_map, IsGradedExact, IsReduced, constant_term}
use Rattle.hp_minres.proofs.RangeSums.{three_ways}
use Rattle.hp_minres.proofs.GridRows.{values_at}
use Rattle.hp_minres.proofs.RowSpans.{IsSpanned, generated_spanned}
use Rattle.hp_minres.proofs.CancelledComplexes.{IsExactComplex}
use Rattle.hp_minres.proofs.ConstantTerms.{all_zeros}
use Rattle.hp_minres.proofs.MinimalComplexes.{All-remove, not_spanned, removed_at}
use Rattle.hp_minres.proofs.GradedComplexes.{past, empty_next}
use Rattle.hp_minres.proofs.ListedComplexes.{exact_maps}
use Rattle.hp_minres.proofs.CancelledRows.{exact_complex}

-- The first n maps have rows, the next has none if it is there. They are listed as matrices, with their degrees.
pub record IsCut {F : Type 0} (width : ℕ) (maps : List (Rows F)) (degrees : List (List ℕ)) (n : ℕ) (mats : List (Matrix (Poly F)))
    (kept : List (List ℕ)) : Type 0 where
  pub within : n ≤ length maps
  pub full : (k : ℕ) → k < n → 1 ≤ length (rows_at maps k)
  pub stop : n < length maps → length (rows_at maps n) ≡ 0
  pub count : length mats ≡ n
  pub each : (k : ℕ) → k < n → map_at mats k ≡ record { cols = level_size width maps k; rows = rows_at maps k }
  pub degrees_are : kept ≡ take n degrees

module _ {F : Type 0} {ring : RingOf F} {inverse : F → F} (field : IsField ring inverse) (width : ℕ) (vs : List (Vector F)) (maps : List (Rows F))
    (degrees : List (List ℕ)) (x : IsReduced ring width vs maps degrees) (n : ℕ) (mats : List (Matrix (Poly F))) (kept : List (List ℕ))
    (z : IsCut width maps degrees n mats kept) (some : 1 ≤ n) where
  abbrev laws : IsRing ring
  laws = field.is_ring

  abbrev comm : IsCommutative ring
  comm = field.commutes

  abbrev PR : RingOf (Poly F)
  PR = poly_ring ring

  abbrev P : IsRing (poly_ring ring)
  P = poly_is_ring laws comm

  abbrev g : IsGradedExact ring width maps degrees
  g = x.complex

  abbrev res : Resolution F
  res = record { maps = mats; degrees = kept }

  -- from map n on there are no rows
  empty_from : (d : ℕ) → length (rows_at maps (n + d)) ≡ 0
  empty_from zero = pick (three_ways n (length maps))
    where
      same : n + 0 ≡ n
      same = omega arith

      pick : (n < length maps) ⊎ ((n ≡ length maps) ⊎ (length maps < n)) → length (rows_at maps (n + 0)) ≡ 0
      pick (inl l) = ap (λ k. length (rows_at maps k)) same ∙ z.stop l
      pick (inr (inl e)) = ap length (past maps (n + 0) [] (omega (arith, e)))
      pick (inr (inr l)) = ap length (past maps (n + 0) [] (omega (arith, l)))
  empty_from (suc d) =
      let more : n + suc d ≡ suc (n + d) = omega arith in
      ap (λ k. length (rows_at maps k)) more
      ∙ empty_next field (level_size width maps) (level_map ring maps) (exact_complex field g) x.clean (n + d) (empty_from d)

  no_rows : (k : ℕ) → n ≤ k → rows_at maps k ≡ []
  no_rows k l = none (rows_at maps k) (ap (λ t. length (rows_at maps t)) there ∙ empty_from (k - n))
    where
      there : k ≡ n + (k - n)
      there = omega (arith, l)

      none : (rows : Rows F) → length rows ≡ 0 → rows ≡ []
      none [] e = refl
      none (r ∷ rows) e = absurd (omega (arith, e))

  same_rows : (k : ℕ) → rows_at maps k ≡ (map_at mats k).rows
  same_rows k = pick (three_ways k n)
    where
      out : n ≤ k → rows_at maps k ≡ (map_at mats k).rows
      out l = let c = z.count in no_rows k l ∙ ap (λ m. m.rows) (sym (past mats k (record { cols = 0; rows = [] }) (omega (arith, c, l))))

      pick : (k < n) ⊎ ((k ≡ n) ⊎ (n < k)) → rows_at maps k ≡ (map_at mats k).rows
      pick (inl l) = ap (λ m. m.rows) (sym (z.each k l))
      pick (inr (inl e)) = out (omega (arith, e))
      pick (inr (inr l)) = out (omega (arith, l))

  same_sizes : (k : ℕ) → level_size width maps k ≡ map_size mats k
  same_sizes zero = ap (λ m. m.cols) (sym (z.each 0 some))
  same_sizes (suc k) = ap length (same_rows k)

  -- ---- the maps

  row_in : (k i : ℕ) → i < length (rows_at maps k) → IsRow PR (level_size width maps k) (slice_index_or (rows_at maps k) i [])
  row_in k i l = (g.widths k i l, values_at P (slice_index_or (rows_at maps k) i []) (λ j. (g.grid k i).value j))

  matrix : (k : ℕ) → k < n → IsMatrix PR (map_at mats k)
  matrix k l = subst (IsMatrix PR) (sym (z.each k l))
      (λ i d b. subst (IsRow PR (level_size width maps k)) (get_or_default (rows_at maps k) i [] d b) (row_in k i b))

  inside : (k : ℕ) → k < length mats → k < n
  inside k l = let c = z.count in omega (arith, c, l)

  at_mats : (k : ℕ) (d : Matrix (Poly F)) → k < length mats → map_at mats k ≡ slice_index_or mats k d
  at_mats k d l = get_or_default mats k (record { cols = 0; rows = [] }) d l

  are_maps : AreMaps PR mats
  are_maps = record {
    matrices = λ k d l. subst (IsMatrix PR) (at_mats k d l) (matrix k (inside k l));
    composable = λ k l. ap (λ m. m.cols) (z.each (suc k) (inside (suc k) l)) ∙ ap length (same_rows k);
  }

  is_exact : IsExact PR mats
  is_exact = exact_maps P mats are_maps
      (subst (λ (t : (ℕ → ℕ) × (ℕ → ℕ → ℕ → Poly F)). IsExactComplex PR t.0 t.1)
      {x = (level_size width maps, level_map ring maps)} {y = (map_size mats, λ k. cell PR (map_at mats k).rows)}
      (λ t. (λ k. same_sizes k t, λ k. cell PR (same_rows k t))) (exact_complex field g))

  -- ---- the degrees

  same_degrees : (k : ℕ) → k < n → slice_index_or kept k [] ≡ slice_index_or degrees k []
  same_degrees k l = ap (λ (ds : List (List ℕ)). slice_index_or ds k []) z.degrees_are ∙ get_or-take n degrees k [] l

  kept_count : length kept ≡ n
  kept_count =
      let a = ap length z.degrees_are in
      let b = length-take n degrees in
      let c = g.one_each in
      let d = z.within in
      omega (arith, a, b, c, d)

  column_degree : (k j : ℕ) → k < n → j < (map_at mats k).cols → slice_index_or (column_degrees res k) j 0 ≡ level_degree degrees k j
  column_degree zero j l b = get_or-replicate (map_at mats 0).cols j 0 0 b
  column_degree (suc k) j l b = ap (λ (ds : List ℕ). slice_index_or ds j 0) (same_degrees k (omega (arith, l)))

  has_degrees : (k : ℕ) → k < length mats → HasDegrees (map_at mats k) (column_degrees res k) (row_degrees res k)
  has_degrees k b =
      let l = inside k b in
      record {
        one_each = ap length (same_degrees k l) ∙ g.lengths k ∙ ap length (same_rows k);
        homogeneous = λ i c.
            let row = row_at (map_at mats k) i in
            let here : slice_index_or (rows_at maps k) i [] ≡ row = ap (λ (rows : Rows F). slice_index_or rows i []) (same_rows k) in
            let ci : i < length (rows_at maps k) = subst (λ t. i < t) (sym (ap length (same_rows k))) c in
            let wide : length row ≡ (map_at mats k).cols = ap length (sym here) ∙ g.widths k i ci ∙ ap (λ m. m.cols) (sym (z.each k l)) in
            graded_all (column_degrees res k) (slice_index_or (row_degrees res k) i 0) row (λ j e.
            subst (λ (t : ℕ × ℕ × Poly F). All (λ u. degree u.0 + t.0 ≡ t.1) t.2)
            {x = (level_degree degrees k j, level_degree degrees (suc k) i, level_map ring maps k i j)}
            {y = (slice_index_or (column_degrees res k) j 0, slice_index_or (row_degrees res k) i 0, slice_index_or row j [])}
            (λ t. (sym (column_degree k j l (subst (λ w. j < w) wide e)) t, slice_index_or (sym (same_degrees k l) t) i 0, slice_index_or (here t) j []))
            (g.steps k i j));
      }

  is_resolution : IsResolution ring (map_at mats 0).rows res
  is_resolution = record {
    some_map = let c = z.count in omega (arith, c, some);
    first = refl;
    some_row = λ k d l. subst (λ m. 1 ≤ length m.rows) (at_mats k d l)
        (subst (λ (rows : Rows F). 1 ≤ length rows) (same_rows k) (z.full k (inside k l)));
    maps = are_maps;
    exact = is_exact;
    one_each = kept_count ∙ sym z.count;
    homogeneous = has_degrees;
  }

  in_variables : IsInFirstVariables ring mats
  in_variables k d l = subst (λ m. All (λ row. (length row ≡ m.cols) × All (IsInVariables ring (map_at mats 0).cols) row) m.rows) (at_mats k d l)
      (λ i e b.
      let rows = (map_at mats k).rows in
      let bi : i < length (rows_at maps k) = subst (λ t. i < t) (sym (ap length (same_rows k))) b in
      let here : slice_index_or (rows_at maps k) i [] ≡ slice_index_or rows i e =
      ap (λ (rs : Rows F). slice_index_or rs i []) (same_rows k) ∙ get_or_default rows i [] e b in
      subst (λ (row : Vector F). (length row ≡ (map_at mats k).cols) × All (IsInVariables ring (map_at mats 0).cols) row) here (
        g.widths k i bi ∙ ap (λ m. m.cols) (sym (z.each k (inside k l))),
        λ j f c. subst (IsInVariables ring (map_at mats 0).cols) (get_or_default (slice_index_or (rows_at maps k) i []) j [] f c)
            (subst (λ w. IsInVariables ring w (level_map ring maps k i j)) (ap (λ m. m.cols) (sym (z.each 0 some))) (g.variables k i j)),
      ))

  each_kept : (Q : List ℕ → Type 0) → ((k : ℕ) → Q (slice_index_or degrees k [])) → All Q kept
  each_kept Q h k d l =
      let c = kept_count in
      subst Q (sym (same_degrees k (omega (arith, c, l))) ∙ get_or_default kept k [] d l) (h k)

  is_frame : IsFrame ring res
  is_frame = record {
    resolution = is_resolution;
    variables = in_variables;
    low = each_kept (λ ds. All (λ d. d ≤ max_degree) ds) (λ k i d l.
        subst (λ y. y ≤ max_degree) (get_or_default (slice_index_or degrees k []) i 0 d l) (g.low (suc k) i));
  }

  -- ---- minimality

  no_constant : (k i j : ℕ) (c : F) → suc k < length mats → ring.IsValue c
      → slice_index_or (row_at (map_at mats (suc k)) i) j [] ≡ constant ring c → c ≡ ring.zero
  no_constant k i j c l v e =
      sym (value_constant laws comm (replicate vars ring.zero) (all_zeros laws vars) c v) ∙ ap (constant_term ring) (sym e)
      ∙ sym (ap (λ (rows : Rows F). constant_term ring (cell PR rows i j)) (same_rows (suc k))) ∙ x.clean k i j

  not_redundant : (rows : Rows F) → ((i : ℕ) (d : Vector F) → i < length rows → IsVector ring width (slice_index_or rows i d))
      → (q : ℕ) (N : ℕ → ℕ → Poly F) → IsGrid PR (length rows) N → IsExactAt PR (length rows) (cell PR rows) q N
      → ((i j : ℕ) → constant_term ring (N i j) ≡ ring.zero) → (r : ℕ) → r < length rows
      → ¬ (IsCombination PR width (remove rows r) (slice_index_or rows r []))
  not_redundant rows hv q N gn ex clean r l c =
      let rest = remove rows r in
      let m = length-remove rows r l in
      let size : length rows ≡ suc (length rest) = omega (arith, m) in
      let s = generated_spanned laws comm width rest (slice_index_or rows r []) (All-remove (IsVector ring width) rows r l hv) c in
      let A = cell PR rows in
      let gr : IsGrid PR width A = Rattle.hp_minres.proofs.ListedComplexes.rows_grid P width rows hv in
      let moved : IsSpanned PR (length rest) (λ i. A (skip r i)) (A r) =
      subst (λ B. IsSpanned PR (length rest) B (A r)) (λ t i j. entry PR (removed_at rows r [] i l t) j) s in
      not_spanned field (length rest) q A N width gr (subst (λ k. IsGrid PR k N) size gn)
      (subst (λ k. IsExactAt PR k A q N) size ex) r (omega (arith, size, l)) (λ i. clean i r) moved

  no_redundant_row : HasNoRedundantRow PR (map_at mats 0)
  no_redundant_row = subst (HasNoRedundantRow PR) (sym (z.each 0 some))
      (not_redundant (rows_at maps 0) (λ i d b. subst (IsVector ring width) (get_or_default (rows_at maps 0) i [] d b) (row_in 0 i b))
      (level_size width maps 2) (level_map ring maps 1) (g.grid 1) (g.exact 0) (λ i j. x.clean 0 i j))

  -- The listed maps are a minimal resolution.
  pub finished_minimal : IsMinimalResolution ring (record { maps = mats; degrees = kept })
  finished_minimal = record {
    frame = is_frame;
    minimal = record { no_constant = no_constant; no_redundant_row = no_redundant_row };
    in_order = each_kept IsNonDecreasing g.in_order;
  }
