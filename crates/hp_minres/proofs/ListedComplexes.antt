-- Exact lists of maps as functions of level, row and column, and back. Past the last map there are no rows, so that exactness
-- at the last map is exactness at one more level.
use Rattle.std.specs.Prelude.{◌≡◌, ◌⊎◌, ◌↔◌, ℕ, zero, suc, ◌<◌, ◌≤◌, List, [], length, All}
use Rattle.std.proofs.lemmas.List.Elements.{All-weaker}
use mathlib.Core.Logic.{inl, inr}
use mathlib.Core.Path.{refl, sym, ap, ◌∙◌, subst}
use native.Mathlib.Omega.{arith}
use Rattle.hp_algebra.specs.Ring.{RingOf, IsRing}
use Rattle.hp_algebra.specs.Rows.{IsRow, entry, row_times, zero_row}
use Rattle.hp_algebra.proofs.Rows.{zeros-row}
use Rattle.hp_linear.specs.Spaces.{AreIndependent}
use Rattle.hp_linear.specs.Matrices.{Matrix, IsMatrix}
use Rattle.hp_complex.specs.Complexes as complexes
use Rattle.hp_complex.specs.Complexes.{map_at, AreMaps, IsRelation, IsExact, times_matrix}
use Rattle.hp_minres.specs.Grids.{zeros, combine, cell, IsRowOf, IsGrid, IsExactAt}
use Rattle.hp_minres.specs.Reductions.{map_size}
use Rattle.hp_minres.proofs.RangeSums.{three_ways}
use Rattle.hp_minres.proofs.GridRows.{zeros_row, combine_row, combine_zeros, listed, length-listed, listed_values, at_listed, at_values, at_row, list_ext, at_replicate, length-row_times, at_row_times, entry_grid, values_at}
use Rattle.hp_minres.proofs.GradedComplexes.{past}
use Rattle.hp_minres.proofs.CancelledComplexes.{IsExactComplex}

module _ {R : Type 0} {ring : RingOf R} (laws : IsRing ring) where
  abbrev At : List R → ℕ → R
  At xs i = entry ring xs i

  abbrev Cells : List (List R) → ℕ → ℕ → R
  Cells rows = cell ring rows

  widths : (n : ℕ) (rows : List (List R)) → All (IsRow ring n) rows → All (λ row. length row ≡ n) rows
  widths n rows h = All-weaker (IsRow ring n) (λ row. length row ≡ n) (λ row f. f.0) rows h

  row_values : (n : ℕ) (rows : List (List R)) → All (IsRow ring n) rows → All (All ring.IsValue) rows
  row_values n rows h = All-weaker (IsRow ring n) (All ring.IsValue) (λ row f. f.1) rows h

  pub rows_grid : (n : ℕ) (rows : List (List R)) → All (IsRow ring n) rows → IsGrid ring n (cell ring rows)
  rows_grid n rows h = entry_grid laws n rows (widths n rows h) (row_values n rows h)

  -- the entries of a product
  times_at : (n : ℕ) (cs : List R) (rows : List (List R)) → IsRow ring (length rows) cs → All (IsRow ring n) rows
      → At (row_times ring n cs rows) ≡ combine ring (length rows) (At cs) (Cells rows)
  times_at n cs rows f h = λ k j. at_row_times laws n cs rows f.0 (widths n rows h) f.1 j k

  relation_view : (m : Matrix R) → IsMatrix ring m → (cs : List R) → IsRow ring (length m.rows) cs
      → IsRelation ring m cs ↔ (combine ring (length m.rows) (At cs) (Cells m.rows) ≡ zeros ring)
  relation_view m im cs h = (
    λ r. sym (times_at m.cols cs m.rows h im) ∙ ap At r.1 ∙ at_replicate laws m.cols,
    λ e. (
      h,
      list_ext laws (times_matrix ring cs m) (zero_row ring m.cols)
          (length-row_times laws m.cols cs m.rows (widths m.cols m.rows im) ∙ sym (zeros-row laws m.cols).0)
          (λ j. (λ k. (times_at m.cols cs m.rows h im ∙ e ∙ sym (at_replicate laws m.cols)) k j)),
    ),
  )

  -- n listed numbers
  listed_row : (n : ℕ) (c : ℕ → R) → IsRowOf ring n c → IsRow ring n (listed ring n c)
  listed_row n c h = (length-listed laws n c, listed_values laws n c h.value)

  pub pair_view : (m n : Matrix R) → IsMatrix ring m → All (IsRow ring (length m.rows)) n.rows → complexes.IsExactAt ring n m
      → IsExactAt ring (length m.rows) (cell ring m.rows) (length n.rows) (cell ring n.rows)
  pair_view m n im hn e = record {
    in_image = λ c h z.
        let same = at_listed laws (length m.rows) c h in
        let hl = listed_row (length m.rows) c h in
        let r = (relation_view m im (listed ring (length m.rows) c) hl).1 (ap (λ u. combine ring (length m.rows) u (Cells m.rows)) same ∙ z) in
        let d = (e (listed ring (length m.rows) c)).0 r in (
          At d.0,
          at_row laws (length n.rows) d.0 d.1.0 d.1.1,
          sym same ∙ ap At d.2 ∙ times_at (length m.rows) d.0 n.rows d.1 hn,
        );
    of_image = λ d h.
        let hd = listed_row (length n.rows) d h in
        let cs = row_times ring (length m.rows) (listed ring (length n.rows) d) n.rows in
        let same : At cs ≡ combine ring (length n.rows) d (Cells n.rows) = times_at (length m.rows) (listed ring (length n.rows) d) n.rows hd hn
        ∙ ap (λ u. combine ring (length n.rows) u (Cells n.rows)) (at_listed laws (length n.rows) d h) in
        let r = (e cs).1 (listed ring (length n.rows) d, hd, refl) in
        ap (λ u. combine ring (length m.rows) u (Cells m.rows)) (sym same) ∙ (relation_view m im cs r.0).0 r;
  }

  pub view_pair : (m n : Matrix R) → IsMatrix ring m → All (IsRow ring (length m.rows)) n.rows
      → IsExactAt ring (length m.rows) (cell ring m.rows) (length n.rows) (cell ring n.rows) → complexes.IsExactAt ring n m
  view_pair m n im hn e cs = (
    λ r.
        let d = e.in_image (At cs) (at_row laws (length m.rows) cs r.0.0 r.0.1) ((relation_view m im cs r.0).0 r) in
        let hd = listed_row (length n.rows) d.0 d.1 in (
          listed ring (length n.rows) d.0,
          hd,
          list_ext laws cs _ (r.0.0 ∙ sym (length-row_times laws (length m.rows) (listed ring (length n.rows) d.0) n.rows (widths _ n.rows hn)))
              (λ i. (λ k. (d.2 ∙ ap (λ u. combine ring (length n.rows) u (Cells n.rows)) (sym (at_listed laws (length n.rows) d.0 d.1))
              ∙ sym (times_at (length m.rows) (listed ring (length n.rows) d.0) n.rows hd hn)) k i)),
        ),
    λ w.
        let same : At cs ≡ combine ring (length n.rows) (At w.0) (Cells n.rows) = ap At w.2 ∙ times_at (length m.rows) w.0 n.rows w.1 hn in
        let row = combine_row laws (length n.rows) (length m.rows) (At w.0) (Cells n.rows) (at_values laws w.0 w.1.1) (rows_grid (length m.rows) n.rows hn) in
        let hc : IsRow ring (length m.rows) cs = (
          ap length w.2 ∙ length-row_times laws (length m.rows) w.0 n.rows (widths _ n.rows hn),
          values_at laws cs (λ i. subst ring.IsValue (λ k. sym same k i) (row.value i)),
        ) in
        (relation_view m im cs hc).1 (ap (λ u. combine ring (length m.rows) u (Cells m.rows)) same
        ∙ e.of_image (At w.0) (at_row laws (length n.rows) w.0 w.1.0 w.1.1)),
  )

  no_rows : (d : ℕ → R) → IsRowOf ring 0 d → d ≡ zeros ring
  no_rows d h = λ k i. h.end i (omega arith) k

  pub last_view : (m : Matrix R) → IsMatrix ring m → AreIndependent ring m.cols m.rows
      → IsExactAt ring (length m.rows) (cell ring m.rows) 0 (cell ring [])
  last_view m im e = record {
    in_image = λ c h z.
        let same = at_listed laws (length m.rows) c h in
        let hl = listed_row (length m.rows) c h in
        let r = (relation_view m im (listed ring (length m.rows) c) hl).1 (ap (λ u. combine ring (length m.rows) u (Cells m.rows)) same ∙ z) in
        (zeros ring, zeros_row laws 0, sym same ∙ ap At (e (listed ring (length m.rows) c) hl r.1) ∙ at_replicate laws (length m.rows));
    of_image = λ d h. combine_zeros laws (length m.rows) m.cols (Cells m.rows) (rows_grid m.cols m.rows im);
  }

  pub view_last : (m : Matrix R) → IsMatrix ring m → IsExactAt ring (length m.rows) (cell ring m.rows) 0 (cell ring [])
      → AreIndependent ring m.cols m.rows
  view_last m im e cs h z =
      let d = e.in_image (At cs) (at_row laws (length m.rows) cs h.0 h.1) ((relation_view m im cs h).0 (h, z)) in
      list_ext laws cs (zero_row ring (length m.rows)) (h.0 ∙ sym (zeros-row laws (length m.rows)).0)
      (λ i. (λ k. (d.2 ∙ sym (at_replicate laws (length m.rows))) k i))

  nothing_exact : IsExactAt ring 0 (cell ring []) 0 (cell ring [])
  nothing_exact = record {
    in_image = λ c h z. (zeros ring, zeros_row laws 0, no_rows c h);
    of_image = λ d h. refl;
  }

  -- ---- lists of maps

  module _ (maps : List (Matrix R)) (are : AreMaps ring maps) where
    none_at : (k : ℕ) → length maps ≤ k → map_at maps k ≡ record { cols = 0; rows = [] }
    none_at k l = past maps k _ l

    matrix_at : (k : ℕ) → k < length maps → IsMatrix ring (map_at maps k)
    matrix_at k l = are.matrices k _ l

    next_rows : (k : ℕ) → suc k < length maps → All (IsRow ring (length (map_at maps k).rows)) (map_at maps (suc k)).rows
    next_rows k l = subst (λ n. All (IsRow ring n) (map_at maps (suc k)).rows) (are.composable k l) (matrix_at (suc k) l)

    empty_grid : (n k : ℕ) → length maps ≤ k → IsGrid ring n (Cells (map_at maps k).rows)
    empty_grid n k l = subst (λ (m : Matrix R). IsGrid ring n (Cells m.rows)) (sym (none_at k l)) (λ i. zeros_row laws n)

    pub maps_grid : (k : ℕ) → IsGrid ring (map_size maps k) (cell ring (map_at maps k).rows)
    maps_grid zero = pick (three_ways 0 (length maps))
      where
        pick : (0 < length maps) ⊎ ((0 ≡ length maps) ⊎ (length maps < 0)) → IsGrid ring (map_at maps 0).cols (Cells (map_at maps 0).rows)
        pick (inl l) = rows_grid (map_at maps 0).cols (map_at maps 0).rows (matrix_at 0 l)
        pick (inr (inl e)) = empty_grid _ 0 (omega arith)
        pick (inr (inr l)) = absurd (omega arith)
    maps_grid (suc k) = pick (three_ways (suc k) (length maps))
      where
        pick : (suc k < length maps) ⊎ ((suc k ≡ length maps) ⊎ (length maps < suc k))
            → IsGrid ring (length (map_at maps k).rows) (Cells (map_at maps (suc k)).rows)
        pick (inl l) = rows_grid (length (map_at maps k).rows) (map_at maps (suc k)).rows (next_rows k l)
        pick (inr (inl e)) = empty_grid _ (suc k) (omega arith)
        pick (inr (inr l)) = empty_grid _ (suc k) (omega arith)

    -- exact at each level
    pub maps_exact : IsExact ring maps → IsExactComplex ring (map_size maps) (λ k. cell ring (map_at maps k).rows)
    maps_exact e = record { grid = maps_grid; exact = λ k. pick k (three_ways (suc k) (length maps)) }
      where
        Exact : ℕ → Type 0
        Exact k = IsExactAt ring (length (map_at maps k).rows) (Cells (map_at maps k).rows) (length (map_at maps (suc k)).rows) (Cells (map_at maps (suc k)).rows)

        pick : (k : ℕ) → (suc k < length maps) ⊎ ((suc k ≡ length maps) ⊎ (length maps < suc k)) → Exact k
        pick k (inl l) = pair_view (map_at maps k) (map_at maps (suc k)) (matrix_at k (omega arith)) (next_rows k l) (e.inside k l)
        pick k (inr (inl q)) =
            subst (λ (m : Matrix R). IsExactAt ring (length (map_at maps k).rows) (Cells (map_at maps k).rows) (length m.rows) (Cells m.rows))
            (sym (none_at (suc k) (omega arith))) (last_view (map_at maps k) (matrix_at k (omega arith)) (e.last k q))
        pick k (inr (inr l)) =
            subst (λ (m : Matrix R). IsExactAt ring (length m.rows) (Cells m.rows) (length (map_at maps (suc k)).rows) (Cells (map_at maps (suc k)).rows))
            (sym (none_at k (omega arith)))
            (subst (λ (m : Matrix R). IsExactAt ring 0 (Cells []) (length m.rows) (Cells m.rows)) (sym (none_at (suc k) (omega arith))) nothing_exact)

    pub exact_maps : IsExactComplex ring (map_size maps) (λ k. cell ring (map_at maps k).rows) → IsExact ring maps
    exact_maps x = record {
      inside = λ k l. view_pair (map_at maps k) (map_at maps (suc k)) (matrix_at k (omega (arith, l))) (next_rows k l) (x.exact k);
      last = λ k q. view_last (map_at maps k) (matrix_at k (omega (arith, q)))
          (subst (λ (m : Matrix R). IsExactAt ring (length (map_at maps k).rows) (Cells (map_at maps k).rows) (length m.rows) (Cells m.rows))
          (none_at (suc k) (omega (arith, q))) (x.exact k));
    }
