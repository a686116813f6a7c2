-- The maps of a resolution with the rows of each in another order: an exact homogeneous complex.
use Rattle.std.specs.Prelude.{◌≡◌, ◌⊎◌, ℕ, zero, suc, ◌+◌, ◌<◌, ◌≤◌, List, [], ◌∷◌, ◌++◌, map, length, slice_index_or}
use Rattle.std.specs.List.Sorted.{IsNonDecreasing, IsPermutation}
use Rattle.std.proofs.lemmas.List.{get_or-map, get_or-replicate, length-map}
use Rattle.std.proofs.lemmas.List.Sorted.{IsPermutation-refl}
use Rattle.std.proofs.lemmas.List.Elements.{All-nil}
use Rattle.std.proofs.lemmas.List.FromFn.{get_or-map-range_with_len, length-map-range_with_len}
use mathlib.Core.Logic.{inl, inr}
use mathlib.Core.Path.{refl, sym, ap, ◌∙◌, subst}
use native.Mathlib.Omega.{arith}
use Rattle.hp_lists.specs.Lists.{below}
use Rattle.hp_algebra.specs.Ring.{RingOf, IsRing, IsCommutative, IsField}
use Rattle.hp_algebra.specs.Rows.{entry}
use Rattle.hp_linear.specs.Matrices.{Matrix}
use Rattle.hp_complex.specs.Complexes.{map_at}
use Rattle.hp_mono.specs.Monomials.{degree, max_degree}
use Rattle.hp_poly.specs.Polynomials.{Poly, IsInVariables, poly_ring}
use Rattle.hp_poly.specs.PolyRing.{poly_is_ring}
use Rattle.hp_module.specs.Vectors.{Vector}
use Rattle.hp_module.proofs.EntryTerms.{graded_each}
use Rattle.hp_resolution.specs.Resolutions.{Resolution, IsFrame, column_degrees, row_at, row_degrees}
use Rattle.hp_minres.specs.Grids.{cell}
use Rattle.hp_minres.specs.Reductions.{AreOrders, AreSorted, Rows, degrees_in, in_orders, map_size, rows_at, level_size, level_degree, level_map, HasStep, IsGradedExact}
use Rattle.hp_minres.proofs.RangeSums.{three_ways}
use Rattle.hp_minres.proofs.CancelledComplexes.{IsExactComplex}
use Rattle.hp_minres.proofs.GradedComplexes.{past}
use Rattle.hp_minres.proofs.PermutedComplexes.{IsBijection, outside, permuted_exact}
use Rattle.hp_minres.proofs.ListedComplexes.{maps_exact}
use Rattle.hp_minres.proofs.DegreeOrders.{placed, order_bijective, order_length}

-- two lists of one length with the same entries are equal
pub same_list : {X : Type 0} (d : X) (xs ys : List X) → length xs ≡ length ys
    → ((i : ℕ) → i < length ys → slice_index_or xs i d ≡ slice_index_or ys i d) → xs ≡ ys
same_list d [] [] e f = refl
same_list d [] (y ∷ ys) e f = absurd (omega (arith, e))
same_list d (x ∷ xs) [] e f = absurd (omega (arith, e))
same_list d (x ∷ xs) (y ∷ ys) e f = λ k. f 0 (omega arith) k ∷ same_list d xs ys (omega (arith, e)) (λ i l. f (suc i) (omega (arith, l))) k

module _ {F : Type 0} {ring : RingOf F} {inverse : F → F} (field : IsField ring inverse) where
  abbrev laws : IsRing ring
  laws = field.is_ring

  abbrev comm : IsCommutative ring
  comm = field.commutes

  abbrev PR : RingOf (Poly F)
  PR = poly_ring ring

  abbrev P : IsRing (poly_ring ring)
  P = poly_is_ring laws comm

  -- An order of the generators of each level, that of the first being the old one, in which the degrees do not fall.
  pub record HaveOrders (f : Resolution F) (o : ℕ → List ℕ) : Type 0 where
    pub each : (k : ℕ) → IsPermutation (below (map_size f.maps k)) (o k)
    pub columns : o 0 ≡ below (map_at f.maps 0).cols
    pub rises : (k : ℕ) → k < length f.maps → IsNonDecreasing (map (λ i. slice_index_or (row_degrees f k) i 0) (o (suc k)))

  module _ (f : Resolution F) (frame : IsFrame ring f) (o : ℕ → List ℕ) (h : HaveOrders f o) (maps : List (Rows F)) (degrees : List (List ℕ))
      (z : AreSorted f o (length f.maps) maps degrees) where
    abbrev width : ℕ
    width = (map_at f.maps 0).cols

    abbrev size : ℕ → ℕ
    size = map_size f.maps

    -- the entries of the frame
    abbrev B : ℕ → ℕ → ℕ → Poly F
    B k = cell PR (map_at f.maps k).rows

    abbrev σ : ℕ → ℕ → ℕ
    σ k i = placed (o k) i

    τ : ℕ → ℕ → ℕ
    τ k = (order_bijective (size k) (o k) (h.each k)).0

    bijective : (k : ℕ) → IsBijection (size k) (σ k) (τ k)
    unfolding τ
    bijective k = (order_bijective (size k) (o k) (h.each k)).1

    base : IsExactComplex PR size B
    base = maps_exact P f.maps frame.resolution.maps frame.resolution.exact

    order_size : (k : ℕ) → length (o k) ≡ size k
    order_size k = order_length (size k) (o k) (h.each k)

    empty_map : (k : ℕ) → length f.maps ≤ k → (map_at f.maps k).rows ≡ []
    empty_map k l = ap (λ m. m.rows) (past f.maps k (record { cols = 0; rows = [] }) l)

    no_rows : (k : ℕ) → length f.maps ≤ k → rows_at maps k ≡ []
    no_rows k l = let c = z.count in past maps k [] (omega (arith, c, l))

    sizes : (k : ℕ) → level_size width maps k ≡ size k
    sizes zero = refl
    sizes (suc k) = pick (three_ways k (length f.maps))
      where
        out : length f.maps ≤ k → length (rows_at maps k) ≡ size (suc k)
        out l = ap length (no_rows k l) ∙ sym (ap length (empty_map k l))

        pick : (k < length f.maps) ⊎ ((k ≡ length f.maps) ⊎ (length f.maps < k)) → length (rows_at maps k) ≡ size (suc k)
        pick (inl l) =
            ap length (z.rows k l)
            ∙ length-map (o (suc k)) (λ i. map (λ j. slice_index_or (slice_index_or (map_at f.maps k).rows i []) j []) (o k)) ∙ order_size (suc k)
        pick (inr (inl e)) = out (omega (arith, e))
        pick (inr (inr l)) = out (omega (arith, l))

    -- an entry of a row in an order
    row_entry : (row : Vector F) (n : ℕ) (columns : List ℕ) (ρ : ℕ → ℕ) → length columns ≡ n → IsBijection n (placed columns) ρ
        → ((j : ℕ) → n ≤ j → slice_index_or row j [] ≡ []) → (j : ℕ)
        → slice_index_or (map (λ j. slice_index_or row j []) columns) j [] ≡ slice_index_or row (placed columns j) []
    row_entry row n columns ρ e b end j = pick (three_ways j n)
      where
        f' : ℕ → Poly F
        f' j = slice_index_or row j []

        out : n ≤ j → slice_index_or (map (λ j. slice_index_or row j []) columns) j [] ≡ slice_index_or row (placed columns j) []
        out l =
            let m = length-map columns f' in
            past (map f' columns) j [] (omega (arith, m, e, l)) ∙ sym (end (placed columns j) (outside n (placed columns) ρ b j l))

        pick : (j < n) ⊎ ((j ≡ n) ⊎ (n < j)) → slice_index_or (map (λ j. slice_index_or row j []) columns) j [] ≡ slice_index_or row (placed columns j) []
        pick (inl l) = get_or-map f' columns j j [] (subst (λ k. j < k) (sym e) l)
        pick (inr (inl q)) = out (omega (arith, q))
        pick (inr (inr l)) = out (omega (arith, l))

    entries : (k i j : ℕ) → level_map ring maps k i j ≡ B k (σ (suc k) i) (σ k j)
    entries k i j = pick (three_ways k (length f.maps)) (three_ways i (size (suc k)))
      where
        row_of : ℕ → Vector F
        row_of i = map (λ j. slice_index_or (slice_index_or (map_at f.maps k).rows i []) j []) (o k)

        none : length f.maps ≤ k → level_map ring maps k i j ≡ B k (σ (suc k) i) (σ k j)
        none l = ap (λ (rows : Rows F). cell PR rows i j) (no_rows k l) ∙ sym (ap (λ (rows : Rows F). cell PR rows (σ (suc k) i) (σ k j)) (empty_map k l))

        out : k < length f.maps → size (suc k) ≤ i → level_map ring maps k i j ≡ B k (σ (suc k) i) (σ k j)
        out a l =
            let s = sizes (suc k) in
            ap (λ (row : Vector F). entry PR row j) (past (rows_at maps k) i [] (omega (arith, s, l)))
            ∙ sym (ap (λ (row : Vector F). entry PR row (σ k j)) (past (map_at f.maps k).rows (σ (suc k) i) []
            (outside (size (suc k)) (σ (suc k)) (τ (suc k)) (bijective (suc k)) i l)))

        inside : k < length f.maps → i < size (suc k) → level_map ring maps k i j ≡ B k (σ (suc k) i) (σ k j)
        inside a l =
            ap (λ (rows : Rows F). cell PR rows i j) (z.rows k a)
            ∙ ap (λ (row : Vector F). entry PR row j) (get_or-map row_of (o (suc k)) i i [] (subst (λ t. i < t) (sym (order_size (suc k))) l))
            ∙ row_entry (slice_index_or (map_at f.maps k).rows (σ (suc k) i) []) (size k) (o k) (τ k) (order_size k) (bijective k)
            (λ t b. (base.grid k (σ (suc k) i)).end t b) j

        pick : (k < length f.maps) ⊎ ((k ≡ length f.maps) ⊎ (length f.maps < k)) → (i < size (suc k)) ⊎ ((i ≡ size (suc k)) ⊎ (size (suc k) < i))
            → level_map ring maps k i j ≡ B k (σ (suc k) i) (σ k j)
        pick (inl a) (inl b) = inside a b
        pick (inl a) (inr (inl e)) = out a (omega (arith, e))
        pick (inl a) (inr (inr l)) = out a (omega (arith, l))
        pick (inr (inl e)) b = none (omega (arith, e))
        pick (inr (inr l)) b = none (omega (arith, l))

    complex : IsExactComplex PR (level_size width maps) (level_map ring maps)
    complex = subst (λ (t : (ℕ → ℕ) × (ℕ → ℕ → ℕ → Poly F)). IsExactComplex PR t.0 t.1)
        {x = (size, λ k i j. B k (σ (suc k) i) (σ k j))} {y = (level_size width maps, level_map ring maps)}
        (λ t. (λ k. sym (sizes k) t, λ k i j. sym (entries k i j) t)) (permuted_exact P size B base σ τ bijective)

    -- ---- degrees

    -- the degree of a generator in the frame
    old_degree : ℕ → ℕ → ℕ
    old_degree zero j = 0
    old_degree (suc k) i = slice_index_or (row_degrees f k) i 0

    degree_lengths : (k : ℕ) → k < length f.maps → length (row_degrees f k) ≡ length (map_at f.maps k).rows
    degree_lengths k l = (frame.resolution.homogeneous k l).one_each

    no_degrees : (k : ℕ) → length f.maps ≤ k → row_degrees f k ≡ []
    no_degrees k l = let e = frame.resolution.one_each in past f.degrees k [] (omega (arith, e, l))

    no_new_degrees : (k : ℕ) → length f.maps ≤ k → slice_index_or degrees k [] ≡ []
    no_new_degrees k l = let e = z.degree_count in past degrees k [] (omega (arith, e, l))

    new_degrees : (k i : ℕ) → level_degree degrees k i ≡ old_degree k (σ k i)
    unfolding old_degree
    new_degrees zero i = refl
    new_degrees (suc k) i = pick (three_ways k (length f.maps)) (three_ways i (size (suc k)))
      where
        g : ℕ → ℕ
        g i = slice_index_or (row_degrees f k) i 0

        none : length f.maps ≤ k → slice_index_or (slice_index_or degrees k []) i 0 ≡ slice_index_or (row_degrees f k) (σ (suc k) i) 0
        none l = ap (λ (ds : List ℕ). slice_index_or ds i 0) (no_new_degrees k l) ∙ sym (ap (λ (ds : List ℕ). slice_index_or ds (σ (suc k) i) 0) (no_degrees k l))

        out : k < length f.maps → size (suc k) ≤ i → slice_index_or (slice_index_or degrees k []) i 0 ≡ slice_index_or (row_degrees f k) (σ (suc k) i) 0
        out a l =
            let m = length-map (o (suc k)) g in
            let s = order_size (suc k) in
            let b = degree_lengths k a in
            let c = outside (size (suc k)) (σ (suc k)) (τ (suc k)) (bijective (suc k)) i l in
            ap (λ (ds : List ℕ). slice_index_or ds i 0) (z.degrees_are k a) ∙ past (map g (o (suc k))) i 0 (omega (arith, m, s, l))
            ∙ sym (past (row_degrees f k) (σ (suc k) i) 0 (omega (arith, b, c)))

        pick : (k < length f.maps) ⊎ ((k ≡ length f.maps) ⊎ (length f.maps < k)) → (i < size (suc k)) ⊎ ((i ≡ size (suc k)) ⊎ (size (suc k) < i))
            → slice_index_or (slice_index_or degrees k []) i 0 ≡ slice_index_or (row_degrees f k) (σ (suc k) i) 0
        pick (inl a) (inl b) =
            ap (λ (ds : List ℕ). slice_index_or ds i 0) (z.degrees_are k a)
            ∙ get_or-map g (o (suc k)) i i 0 (subst (λ t. i < t) (sym (order_size (suc k))) b)
        pick (inl a) (inr (inl e)) = out a (omega (arith, e))
        pick (inl a) (inr (inr l)) = out a (omega (arith, l))
        pick (inr (inl e)) b = none (omega (arith, e))
        pick (inr (inr l)) b = none (omega (arith, l))

    old_step : (k i j : ℕ) → HasStep (old_degree k j) (old_degree (suc k) i) (B k i j)
    unfolding old_degree
    old_step k i j = pick (three_ways k (length f.maps)) (three_ways i (size (suc k))) (three_ways j (size k))
      where
        Goal : Type 0
        Goal = HasStep (old_degree k j) (old_degree (suc k) i) (B k i j)

        nil : B k i j ≡ [] → HasStep (old_degree k j) (old_degree (suc k) i) (B k i j)
        nil e = subst (HasStep (old_degree k j) (old_degree (suc k) i)) (sym e) (All-nil (λ t. degree t.0 + old_degree k j ≡ old_degree (suc k) i))

        no_map : length f.maps ≤ k → B k i j ≡ []
        no_map l = ap (λ (rows : Rows F). cell PR rows i j) (empty_map k l)

        no_row : size (suc k) ≤ i → B k i j ≡ []
        no_row l = ap (λ (row : Vector F). entry PR row j) (past (map_at f.maps k).rows i [] l)

        column : (k : ℕ) → j < size k → slice_index_or (column_degrees f k) j 0 ≡ old_degree k j
        column zero l = get_or-replicate (map_at f.maps 0).cols j 0 0 l
        column (suc k) l = refl

        inside : k < length f.maps → i < size (suc k) → j < size k → HasStep (old_degree k j) (old_degree (suc k) i) (B k i j)
        inside a b c =
            let m = frame.resolution.maps.matrices k (record { cols = 0; rows = [] }) a in
            let w = (m i [] b).0 in
            let wide : length (row_at (map_at f.maps k) i) ≡ size k = w ∙ columns k a in
            subst (λ d. HasStep d (old_degree (suc k) i) (B k i j)) (column k c)
            (graded_each (column_degrees f k) (slice_index_or (row_degrees f k) i 0) (row_at (map_at f.maps k) i)
            ((frame.resolution.homogeneous k a).homogeneous i b) j (subst (λ t. j < t) (sym wide) c))
          where
            columns : (k : ℕ) → k < length f.maps → (map_at f.maps k).cols ≡ size k
            columns zero a = refl
            columns (suc k) a = frame.resolution.maps.composable k a

        pick : (k < length f.maps) ⊎ ((k ≡ length f.maps) ⊎ (length f.maps < k)) → (i < size (suc k)) ⊎ ((i ≡ size (suc k)) ⊎ (size (suc k) < i))
            → (j < size k) ⊎ ((j ≡ size k) ⊎ (size k < j)) → HasStep (old_degree k j) (old_degree (suc k) i) (B k i j)
        pick (inl a) (inl b) (inl c) = inside a b c
        pick (inl a) (inl b) (inr (inl e)) = nil ((base.grid k i).end j (omega (arith, e)))
        pick (inl a) (inl b) (inr (inr l)) = nil ((base.grid k i).end j (omega (arith, l)))
        pick (inl a) (inr (inl e)) c = nil (no_row (omega (arith, e)))
        pick (inl a) (inr (inr l)) c = nil (no_row (omega (arith, l)))
        pick (inr (inl e)) b c = nil (no_map (omega (arith, e)))
        pick (inr (inr l)) b c = nil (no_map (omega (arith, l)))

    steps : (k i j : ℕ) → HasStep (level_degree degrees k j) (level_degree degrees (suc k) i) (level_map ring maps k i j)
    steps k i j =
        subst (λ (t : ℕ × ℕ × Poly F). HasStep t.0 t.1 t.2)
        {x = (old_degree k (σ k j), old_degree (suc k) (σ (suc k) i), B k (σ (suc k) i) (σ k j))}
        {y = (level_degree degrees k j, level_degree degrees (suc k) i, level_map ring maps k i j)}
        (λ t. (sym (new_degrees k j) t, sym (new_degrees (suc k) i) t, sym (entries k i j) t)) (old_step k (σ (suc k) i) (σ k j))

    old_low : (k i : ℕ) → old_degree k i ≤ max_degree
    unfolding old_degree
    old_low zero i = omega arith
    old_low (suc k) i = pick (three_ways k (length f.degrees)) (three_ways i (length (row_degrees f k)))
      where
        zero_low : (ds : List ℕ) → length ds ≤ i → slice_index_or ds i 0 ≤ max_degree
        zero_low ds l = subst (λ d. d ≤ max_degree) (sym (past ds i 0 l)) (omega arith)

        none : length f.degrees ≤ k → slice_index_or (row_degrees f k) i 0 ≤ max_degree
        none l = subst (λ (ds : List ℕ). slice_index_or ds i 0 ≤ max_degree) (sym (past f.degrees k [] l)) (omega arith)

        pick : (k < length f.degrees) ⊎ ((k ≡ length f.degrees) ⊎ (length f.degrees < k))
            → (i < length (row_degrees f k)) ⊎ ((i ≡ length (row_degrees f k)) ⊎ (length (row_degrees f k) < i)) → slice_index_or (row_degrees f k) i 0 ≤ max_degree
        pick (inl a) (inl b) = frame.low k [] a i 0 b
        pick (inl a) (inr (inl e)) = zero_low (row_degrees f k) (omega (arith, e))
        pick (inl a) (inr (inr l)) = zero_low (row_degrees f k) (omega (arith, l))
        pick (inr (inl e)) b = none (omega (arith, e))
        pick (inr (inr l)) b = none (omega (arith, l))

    old_variables : (k i j : ℕ) → IsInVariables ring width (B k i j)
    old_variables k i j = pick (three_ways k (length f.maps)) (three_ways i (size (suc k))) (three_ways j (size k))
      where
        nil : B k i j ≡ [] → IsInVariables ring width (B k i j)
        nil e = subst (IsInVariables ring width) (sym e) (P.zero_value, λ i t l. absurd (omega (arith, l)))

        no_map : length f.maps ≤ k → B k i j ≡ []
        no_map l = ap (λ (rows : Rows F). cell PR rows i j) (empty_map k l)

        no_row : size (suc k) ≤ i → B k i j ≡ []
        no_row l = ap (λ (row : Vector F). entry PR row j) (past (map_at f.maps k).rows i [] l)

        columns : (k : ℕ) → k < length f.maps → (map_at f.maps k).cols ≡ size k
        columns zero a = refl
        columns (suc k) a = frame.resolution.maps.composable k a

        pick : (k < length f.maps) ⊎ ((k ≡ length f.maps) ⊎ (length f.maps < k)) → (i < size (suc k)) ⊎ ((i ≡ size (suc k)) ⊎ (size (suc k) < i))
            → (j < size k) ⊎ ((j ≡ size k) ⊎ (size k < j)) → IsInVariables ring width (B k i j)
        pick (inl a) (inl b) (inl c) =
            let row = frame.variables k (record { cols = 0; rows = [] }) a i [] b in
            let wide = row.0 ∙ columns k a in
            row.1 j [] (subst (λ t. j < t) (sym wide) c)
        pick (inl a) (inl b) (inr (inl e)) = nil ((base.grid k i).end j (omega (arith, e)))
        pick (inl a) (inl b) (inr (inr l)) = nil ((base.grid k i).end j (omega (arith, l)))
        pick (inl a) (inr (inl e)) c = nil (no_row (omega (arith, e)))
        pick (inl a) (inr (inr l)) c = nil (no_row (omega (arith, l)))
        pick (inr (inl e)) b c = nil (no_map (omega (arith, e)))
        pick (inr (inr l)) b c = nil (no_map (omega (arith, l)))

    lengths : (k : ℕ) → length (slice_index_or degrees k []) ≡ length (rows_at maps k)
    lengths k = pick (three_ways k (length f.maps))
      where
        none : length f.maps ≤ k → length (slice_index_or degrees k []) ≡ length (rows_at maps k)
        none l = ap length (no_new_degrees k l) ∙ sym (ap length (no_rows k l))

        pick : (k < length f.maps) ⊎ ((k ≡ length f.maps) ⊎ (length f.maps < k)) → length (slice_index_or degrees k []) ≡ length (rows_at maps k)
        pick (inl a) =
            ap length (z.degrees_are k a) ∙ length-map (o (suc k)) (λ i. slice_index_or (row_degrees f k) i 0) ∙ order_size (suc k) ∙ sym (sizes (suc k))
        pick (inr (inl e)) = none (omega (arith, e))
        pick (inr (inr l)) = none (omega (arith, l))

    widths : (k i : ℕ) → i < length (rows_at maps k) → length (slice_index_or (rows_at maps k) i []) ≡ level_size width maps k
    widths k i l = pick (three_ways k (length f.maps))
      where
        row_of : ℕ → Vector F
        row_of i = map (λ j. slice_index_or (slice_index_or (map_at f.maps k).rows i []) j []) (o k)

        none : length f.maps ≤ k → length (slice_index_or (rows_at maps k) i []) ≡ level_size width maps k
        none b = absurd (let e = ap length (no_rows k b) in omega (arith, e, l))

        pick : (k < length f.maps) ⊎ ((k ≡ length f.maps) ⊎ (length f.maps < k)) → length (slice_index_or (rows_at maps k) i []) ≡ level_size width maps k
        pick (inl a) =
            let s = sizes (suc k) in
            let q = order_size (suc k) in
            ap length (ap (λ (rows : Rows F). slice_index_or rows i []) (z.rows k a) ∙ get_or-map row_of (o (suc k)) i i [] (omega (arith, s, q, l)))
            ∙ length-map (o k) (λ j. slice_index_or (slice_index_or (map_at f.maps k).rows (σ (suc k) i) []) j []) ∙ order_size k ∙ sym (sizes k)
        pick (inr (inl e)) = none (omega (arith, e))
        pick (inr (inr b)) = none (omega (arith, b))

    in_order : (k : ℕ) → IsNonDecreasing (slice_index_or degrees k [])
    in_order k = pick (three_ways k (length f.maps))
      where
        none : length f.maps ≤ k → IsNonDecreasing (slice_index_or degrees k [])
        none l i j d a b = absurd (let e = ap length (no_new_degrees k l) in omega (arith, e, b))

        pick : (k < length f.maps) ⊎ ((k ≡ length f.maps) ⊎ (length f.maps < k)) → IsNonDecreasing (slice_index_or degrees k [])
        pick (inl a) = subst IsNonDecreasing (sym (z.degrees_are k a)) (h.rises k a)
        pick (inr (inl e)) = none (omega (arith, e))
        pick (inr (inr l)) = none (omega (arith, l))

    -- The sorted maps are an exact homogeneous complex.
    pub sorted_graded_exact : IsGradedExact ring (map_at f.maps 0).cols maps degrees
    sorted_graded_exact = record {
      one_each = z.degree_count ∙ sym z.count;
      lengths = lengths;
      widths = widths;
      grid = complex.grid;
      exact = complex.exact;
      steps = steps;
      low = λ k i. subst (λ d. d ≤ max_degree) (sym (new_degrees k i)) (old_low k (σ k i));
      variables = λ k i j. subst (IsInVariables ring width) (sym (entries k i j)) (old_variables k (σ (suc k) i) (σ k j));
      in_order = in_order;
    }

  -- ---- orders that are listed

  pub have_orders : (f : Resolution F) → IsFrame ring f → (orders : List (List ℕ)) → AreOrders f orders
      → HaveOrders f (λ k. slice_index_or orders k [])
  have_orders f frame orders h = record { each = each; columns = h.columns; rises = λ k l. (h.each k l).rises }
    where
      base : (n : ℕ) (order : List ℕ) → order ≡ below n → IsPermutation (below n) order
      base n order e = subst (IsPermutation (below n)) (sym e) (IsPermutation-refl (below n))

      each : (k : ℕ) → IsPermutation (below (map_size f.maps k)) (slice_index_or orders k [])
      each zero = base _ _ h.columns
      each (suc k) = pick (three_ways k (length f.maps))
        where
          none : length f.maps ≤ k → IsPermutation (below (map_size f.maps (suc k))) (slice_index_or orders (suc k) [])
          none l =
              let c = h.count in
              let e = ap (λ m. length m.rows) (past f.maps k (record { cols = 0; rows = [] }) l) in
              base _ _ (past orders (suc k) [] (omega (arith, c, l)) ∙ sym (ap below e))

          pick : (k < length f.maps) ⊎ ((k ≡ length f.maps) ⊎ (length f.maps < k))
              → IsPermutation (below (map_size f.maps (suc k))) (slice_index_or orders (suc k) [])
          pick (inl l) = subst (λ n. IsPermutation (below n) (slice_index_or orders (suc k) [])) (frame.resolution.homogeneous k l).one_each (h.each k l).permutes
          pick (inr (inl e)) = none (omega (arith, e))
          pick (inr (inr l)) = none (omega (arith, l))

  -- the rows of the first map keep their order
  pub first_rows : (f : Resolution F) → IsFrame ring f → (orders : List (List ℕ)) → AreOrders f orders → (maps : List (Rows F)) (degrees : List (List ℕ))
      → AreSorted f (λ k. slice_index_or orders k []) (length f.maps) maps degrees → rows_at maps 0 ≡ (map_at f.maps 0).rows
  first_rows f frame orders h maps degrees z =
      z.rows 0 some ∙ (λ t. in_orders m.rows (h.first t) (h.columns t)) ∙ ap (λ n. in_orders m.rows (below n) (below m.cols)) (frame.resolution.homogeneous 0 some).one_each
      ∙ same_list [] (in_orders m.rows (below (length m.rows)) (below m.cols)) m.rows (length-map-range_with_len row_of 0 (length m.rows))
      (λ i l. get_or-map-range_with_len row_of 0 (length m.rows) i i [] l (omega arith)
      ∙ same_list [] (row_of i) (slice_index_or m.rows i []) (length-map-range_with_len (entry_of i) 0 m.cols ∙ sym (wide i l))
      (λ j b. get_or-map-range_with_len (entry_of i) 0 m.cols j j [] (subst (λ n. j < n) (wide i l) b) (omega arith)))
    where
      some : 0 < length f.maps
      some = let s = frame.resolution.some_map in omega (arith, s)

      m : Matrix (Poly F)
      m = map_at f.maps 0

      entry_of : ℕ → ℕ → Poly F
      entry_of i j = slice_index_or (slice_index_or m.rows i []) j []

      row_of : ℕ → Vector F
      row_of i = map (λ j. slice_index_or (slice_index_or m.rows i []) j []) (below m.cols)

      wide : (i : ℕ) → i < length m.rows → length (slice_index_or m.rows i []) ≡ m.cols
      wide i l = (frame.resolution.maps.matrices 0 (record { cols = 0; rows = [] }) some i [] l).0

  -- one map more
  pub sorted-more : (f : Resolution F) (o : ℕ → List ℕ) (n : ℕ) (maps : List (Rows F)) (degrees : List (List ℕ)) (rows : Rows F) (ds : List ℕ)
      → AreSorted f o n maps degrees → rows ≡ in_orders (map_at f.maps n).rows (o (suc n)) (o n) → ds ≡ degrees_in (row_degrees f n) (o (suc n))
      → AreSorted f o (n + 1) (maps ++ rows ∷ []) (degrees ++ ds ∷ [])
  sorted-more f o n maps degrees rows ds h er ed = record {
    count = long maps rows h.count;
    degree_count = long degrees ds h.degree_count;
    rows = λ k l. pick maps rows h.count (λ k. in_orders (map_at f.maps k).rows (o (suc k)) (o k)) h.rows er k l (three_ways k n);
    degrees_are = λ k l. pick degrees ds h.degree_count (λ k. degrees_in (row_degrees f k) (o (suc k))) h.degrees_are ed k l (three_ways k n);
  }
    where
      pushed : {X : Type 0} (xs : List X) (x : X) → length (xs ++ x ∷ []) ≡ suc (length xs)
      pushed [] x = refl
      pushed (y ∷ xs) x = ap suc (pushed xs x)

      long : {X : Type 0} (xs : List X) (x : X) → length xs ≡ n → length (xs ++ x ∷ []) ≡ n + 1
      long xs x e = let p = pushed xs x in omega (arith, p, e)

      last : {X : Type 0} (xs : List X) (x d : X) → slice_index_or (xs ++ x ∷ []) (length xs) d ≡ x
      last [] x d = refl
      last (y ∷ xs) x d = last xs x d

      before : {X : Type 0} (xs : List X) (x d : X) (i : ℕ) → i < length xs → slice_index_or (xs ++ x ∷ []) i d ≡ slice_index_or xs i d
      before [] x d i l = absurd (omega (arith, l))
      before (y ∷ xs) x d zero l = refl
      before (y ∷ xs) x d (suc i) l = before xs x d i (omega (arith, l))

      pick : {X : Type 0} (xs : List (List X)) (x : List X) → length xs ≡ n → (G : ℕ → List X) → ((k : ℕ) → k < n → slice_index_or xs k [] ≡ G k) → x ≡ G n
          → (k : ℕ) → k < n + 1 → (k < n) ⊎ ((k ≡ n) ⊎ (n < k)) → slice_index_or (xs ++ x ∷ []) k [] ≡ G k
      pick xs x e G f g k l (inl a) = before xs x [] k (omega (arith, e, a)) ∙ f k a
      pick xs x e G f g k l (inr (inl a)) =
          let q : k ≡ length xs = omega (arith, e, a) in
          ap (λ t. slice_index_or (xs ++ x ∷ []) t []) q ∙ last xs x [] ∙ g ∙ ap G (sym a)
      pick xs x e G f g k l (inr (inr a)) = absurd (omega (arith, l, a))

  -- the columns of a map
  pub frame_columns : (f : Resolution F) → IsFrame ring f → (k : ℕ) → k < length f.maps → (map_at f.maps k).cols ≡ map_size f.maps k
  frame_columns f frame zero l = refl
  frame_columns f frame (suc k) l = frame.resolution.maps.composable k l
