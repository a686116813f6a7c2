-- Exact homogeneous complexes given by the rows of their maps, and the cancellation of a unit entry. Maps, rows and columns
-- count from 0. Level 0 is the free module of the first map's columns, level k + 1 that of the rows of map k.
use Rattle.std.specs.Prelude.{◌≡◌, ◌≢◌, ℕ, zero, suc, ◌+◌, ◌-◌, ◌<◌, ◌≤◌, List, [], ◌∷◌, ◌++◌, map, length, All, remove, replicate, set, slice_index_or}
use Rattle.std.specs.List.Sorted.{IsNonDecreasing, IsPermutation}
use Rattle.hp_lists.specs.Lists.{below}
use Rattle.hp_algebra.specs.Ring.{RingOf}
use Rattle.hp_linear.specs.Matrices.{Matrix}
use Rattle.hp_complex.specs.Complexes.{map_at}
use Rattle.hp_resolution.specs.Resolutions.{Resolution, row_degrees}
use Rattle.hp_mono.specs.Monomials.{degree, max_degree, vars}
use Rattle.hp_poly.specs.Polynomials.{Poly, IsPoly, IsHomogeneous, IsInVariables, constant, poly_neg, poly_plus, poly_ring, poly_times, poly_value}
use Rattle.hp_module.specs.Vectors.{Vector, IsKept, IsKeptAfter, IsVector}
use Rattle.hp_minres.specs.Grids.{IsGrid, IsExactAt, cell, eliminated}

-- the rows of a map
abbrev pub Rows : Type 0 → Type 0
Rows F = List (Vector F)

module _ {F : Type 0} where
  -- the rows of map k, and none from the end on
  abbrev pub rows_at : List (Rows F) → ℕ → Rows F
  rows_at maps k = slice_index_or maps k []

  -- how many generators the module of a level has
  abbrev pub level_size : ℕ → List (Rows F) → ℕ → ℕ
  level_size width maps zero = width
  level_size width maps (suc k) = length (rows_at maps k)

-- the degree of a generator of a level
abbrev pub level_degree : List (List ℕ) → ℕ → ℕ → ℕ
level_degree degrees zero j = 0
level_degree degrees (suc k) i = slice_index_or (slice_index_or degrees k []) i 0

-- each term's degree with a is b
abbrev pub HasStep : {F : Type 0} → ℕ → ℕ → Poly F → Type 0
HasStep a b p = All (λ t. degree t.0 + a ≡ b) p

module _ {F : Type 0} (ring : RingOf F) where
  -- the entries of map k
  abbrev pub level_map : List (Rows F) → ℕ → ℕ → ℕ → Poly F
  level_map maps k = cell (poly_ring ring) (rows_at maps k)

  -- An exact homogeneous complex in the first variables, the degrees of whose rows do not fall in each map.
  pub record IsGradedExact (width : ℕ) (maps : List (Rows F)) (degrees : List (List ℕ)) : Type 0 where
    pub one_each : length degrees ≡ length maps
    pub lengths : (k : ℕ) → length (slice_index_or degrees k []) ≡ length (rows_at maps k)
    pub widths : (k i : ℕ) → i < length (rows_at maps k) → length (slice_index_or (rows_at maps k) i []) ≡ level_size width maps k
    pub grid : (k : ℕ) → IsGrid (poly_ring ring) (level_size width maps k) (level_map maps k)
    pub exact : (k : ℕ) → IsExactAt (poly_ring ring) (level_size width maps (suc k)) (level_map maps k)
        (level_size width maps (suc (suc k))) (level_map maps (suc k))
    pub steps : (k i j : ℕ) → HasStep (level_degree degrees k j) (level_degree degrees (suc k) i) (level_map maps k i j)
    pub low : (k i : ℕ) → level_degree degrees k i ≤ max_degree
    pub variables : (k i j : ℕ) → IsInVariables ring width (level_map maps k i j)
    pub in_order : (k : ℕ) → IsNonDecreasing (slice_index_or degrees k [])

  -- an entry with an inverse
  abbrev pub IsUnit : Poly F → Type 0
  IsUnit b = (w : Poly F) × IsPoly ring w × (poly_times ring w b ≡ (poly_ring ring).one)

  -- no entry of column c of map k is a unit: where an entry has the degree 0 it is zero
  abbrev pub HasNoUnitAt : List (Rows F) → List (List ℕ) → ℕ → ℕ → Type 0
  HasNoUnitAt maps degrees k c = (i : ℕ) → i < length (rows_at maps k)
      → level_degree degrees k c ≡ level_degree degrees (suc k) i → level_map maps k i c ≡ []

  -- The unit in row r and column c of map h + 1 is cancelled: map h loses row c, map h + 1 loses row r and column c after
  -- one step of elimination, and map h + 2 loses column r.
  pub record IsCancelledAt (maps : List (Rows F)) (degrees : List (List ℕ)) (h r c : ℕ) (w : Poly F) (maps' : List (Rows F))
      (degrees' : List (List ℕ)) : Type 0 where
    pub same_count : length maps' ≡ length maps
    pub lower : rows_at maps' h ≡ remove (rows_at maps h) c
    pub middle_rows : length (rows_at maps' (suc h)) + 1 ≡ length (rows_at maps (suc h))
    pub middle_widths : (i : ℕ) → i < length (rows_at maps' (suc h))
        → length (slice_index_or (rows_at maps' (suc h)) i []) + 1 ≡ length (rows_at maps h)
    pub middle : (i j : ℕ) → i < length (rows_at maps' (suc h)) → j + 1 < length (rows_at maps h)
        → level_map maps' (suc h) i j ≡ eliminated (poly_ring ring) (level_map maps (suc h)) r c w i j
    pub upper : rows_at maps' (suc (suc h)) ≡ map (λ row. remove row r) (rows_at maps (suc (suc h)))
    pub others : (k : ℕ) → k ≢ h → k ≢ suc h → k ≢ suc (suc h) → rows_at maps' k ≡ rows_at maps k
    pub column_degrees : slice_index_or degrees' h [] ≡ remove (slice_index_or degrees h []) c
    pub row_degrees : slice_index_or degrees' (suc h) [] ≡ remove (slice_index_or degrees (suc h) []) r
    pub other_degrees : (k : ℕ) → k ≢ h → k ≢ suc h → slice_index_or degrees' k [] ≡ slice_index_or degrees k []
    pub degree_count : length degrees' ≡ length degrees

  -- y - x z, place by place
  abbrev pub minus_multiple : Poly F → Vector F → Vector F → Vector F
  minus_multiple x [] zs = []
  minus_multiple x (y ∷ ys) [] = []
  minus_multiple x (y ∷ ys) (z ∷ zs) = poly_plus ring y (poly_neg ring (poly_times ring x z)) ∷ minus_multiple x ys zs

  -- the entry in row r and column c of map h + 1 is a constant whose inverse is w
  pub record IsUnitAt (maps : List (Rows F)) (degrees : List (List ℕ)) (h r c : ℕ) (w : Poly F) : Type 0 where
    pub row_in : r < length (rows_at maps (suc h))
    pub column_in : c < length (rows_at maps h)
    pub same_degree : level_degree degrees (suc h) c ≡ level_degree degrees (suc (suc h)) r
    pub value : IsPoly ring w
    pub constant : IsHomogeneous ring 0 w
    pub inverse : poly_times ring w (level_map maps (suc h) r c) ≡ (poly_ring ring).one

  -- The vectors vs from place c on are done: of those the ones are left that the vectors before them in vs do not generate.
  pub record IsKeptDownTo (width c : ℕ) (vs ws : List (Vector F)) : Type 0 where
    pub before : List (Vector F)
    pub later : List (Vector F)
    pub kept : List (Vector F)
    pub place : length before ≡ c
    pub original : vs ≡ before ++ later
    pub current : ws ≡ before ++ kept
    pub is_kept : IsKeptAfter ring width before later kept

  -- the constant term of a polynomial is its value where all variables are zero
  abbrev pub constant_term : Poly F → F
  constant_term p = poly_value ring (replicate vars ring.zero) p

  -- Maps 1 to k - 1 have no constant terms, and map k has none in the columns from c on.
  pub record IsReducing (width : ℕ) (maps : List (Rows F)) (degrees : List (List ℕ)) (k c : ℕ) : Type 0 where
    pub complex : IsGradedExact width maps degrees
    pub done : (j : ℕ) → 1 ≤ j → j < k → (i p : ℕ) → constant_term (level_map maps j i p) ≡ ring.zero
    pub columns : (i p : ℕ) → c ≤ p → constant_term (level_map maps k i p) ≡ ring.zero

  -- The same, where vs were the rows of the first map: from map 2 on its rows are the kept ones of vs, and before that its
  -- rows from place c on are done.
  pub record IsReducingOf (width : ℕ) (vs : List (Vector F)) (maps : List (Rows F)) (degrees : List (List ℕ)) (k c : ℕ) : Type 0 where
    pub reducing : IsReducing width maps degrees k c
    pub some_map : 1 ≤ k
    pub going : k ≡ 1 → IsKeptDownTo width c vs (rows_at maps 0)
    pub kept : 2 ≤ k → IsKept ring width vs (rows_at maps 0)

  -- What is so of one complex with its units cancelled so far is so of the other, further on.
  pub record AreSteps (maps : List (Rows F)) (degrees : List (List ℕ)) (k c : ℕ) (maps' : List (Rows F)) (degrees' : List (List ℕ))
      (k' c' : ℕ) : Type 0 where
    pub kept : (width : ℕ) (vs : List (Vector F)) → All (IsVector ring width) vs → IsReducingOf width vs maps degrees k c
        → IsReducingOf width vs maps' degrees' k' c'
    pub graded : (width : ℕ) → IsGradedExact width maps degrees → IsGradedExact width maps' degrees'
    pub count : length maps' ≡ length maps
    pub fewer : c' ≤ c → c ≤ length (rows_at maps (k - 1)) → c' ≤ length (rows_at maps' (k - 1))

  -- column c of map k is done
  abbrev pub IsStep : List (Rows F) → List (List ℕ) → ℕ → ℕ → List (Rows F) → List (List ℕ) → Type 0
  IsStep maps degrees k c maps' degrees' = AreSteps maps degrees k (suc c) maps' degrees' k c

  -- An exact homogeneous complex without constant terms after the first map, whose rows are the kept ones of vs.
  pub record IsReduced (width : ℕ) (vs : List (Vector F)) (maps : List (Rows F)) (degrees : List (List ℕ)) : Type 0 where
    pub complex : IsGradedExact width maps degrees
    pub clean : (k i j : ℕ) → constant_term (level_map maps (suc k) i j) ≡ ring.zero
    pub kept : IsKept ring width vs (rows_at maps 0)

module _ {F : Type 0} (ring : RingOf F) (inverse : F → F) where
  -- the inverse of a constant
  abbrev pub inverse_constant : Poly F → Poly F
  inverse_constant [] = []
  inverse_constant (t ∷ ts) = constant ring (inverse t.1)

  -- a row without column c, divided by its entry there
  abbrev pub pivot_row : Vector F → ℕ → Vector F
  pivot_row row c = map (poly_times ring (inverse_constant (slice_index_or row c []))) (remove row c)

  -- the rows without row r and column c after one step of elimination
  abbrev pub eliminated_rows : Rows F → ℕ → ℕ → Rows F
  eliminated_rows rows r c =
      map (λ row. minus_multiple ring (slice_index_or row c []) (remove row c) (pivot_row (slice_index_or rows r []) c)) (remove rows r)

  -- the maps with the unit in row r and column c of map h + 1 cancelled
  abbrev pub cancelled_maps : List (Rows F) → ℕ → ℕ → ℕ → List (Rows F)
  cancelled_maps maps h r c =
      set (set (set maps h (remove (rows_at maps h) c)) (suc h) (eliminated_rows (rows_at maps (suc h)) r c)) (suc (suc h))
      (map (λ row. remove row r) (rows_at maps (suc (suc h))))

-- the degrees of their rows
abbrev pub cancelled_degrees : List (List ℕ) → ℕ → ℕ → ℕ → List (List ℕ)
cancelled_degrees degrees h r c =
    set (set degrees h (remove (slice_index_or degrees h []) c)) (suc h) (remove (slice_index_or degrees (suc h) []) r)

-- The places of the degrees in an order in which these do not fall.
pub record IsDegreeOrder (degrees order : List ℕ) : Type 0 where
  pub permutes : IsPermutation (below (length degrees)) order
  pub rises : IsNonDecreasing (map (λ i. slice_index_or degrees i 0) order)

-- the degrees in an order
abbrev pub degrees_in : List ℕ → List ℕ → List ℕ
degrees_in ds order = map (λ i. slice_index_or ds i 0) order

-- the ranks of the free modules of a list of maps
abbrev pub map_size : {R : Type 0} → List (Matrix R) → ℕ → ℕ
map_size maps zero = (map_at maps 0).cols
map_size maps (suc k) = length (map_at maps k).rows

module _ {F : Type 0} where
  -- An order of the generators of each level: the old one for the first two, and one by degree for the others.
  pub record AreOrders (f : Resolution F) (orders : List (List ℕ)) : Type 0 where
    pub count : length orders ≡ suc (length f.maps)
    pub columns : slice_index_or orders 0 [] ≡ below (map_at f.maps 0).cols
    pub first : slice_index_or orders 1 [] ≡ below (length (row_degrees f 0))
    pub each : (k : ℕ) → k < length f.maps → IsDegreeOrder (row_degrees f k) (slice_index_or orders (suc k) [])

  -- the rows of a matrix in an order, each with its entries in another
  abbrev pub in_orders : Rows F → List ℕ → List ℕ → Rows F
  in_orders rows order columns = map (λ i. map (λ j. slice_index_or (slice_index_or rows i []) j []) columns) order

  -- The first n maps with their rows in these orders, and their degrees.
  pub record AreSorted (f : Resolution F) (o : ℕ → List ℕ) (n : ℕ) (maps : List (Rows F)) (degrees : List (List ℕ)) : Type 0 where
    pub count : length maps ≡ n
    pub degree_count : length degrees ≡ n
    pub rows : (k : ℕ) → k < n → rows_at maps k ≡ in_orders (map_at f.maps k).rows (o (suc k)) (o k)
    pub degrees_are : (k : ℕ) → k < n → slice_index_or degrees k [] ≡ degrees_in (row_degrees f k) (o (suc k))

  -- The first n maps have rows, and the next has none if it is there.
  pub record AreFull (maps : List (Rows F)) (n : ℕ) : Type 0 where
    pub within : n ≤ length maps
    pub full : (k : ℕ) → k < n → 1 ≤ length (rows_at maps k)
    pub stop : n < length maps → length (rows_at maps n) ≡ 0

  -- The maps as matrices.
  pub record AreMatricesOf (width : ℕ) (maps : List (Rows F)) (mats : List (Matrix (Poly F))) : Type 0 where
    pub count : length mats ≡ length maps
    pub each : (k : ℕ) → k < length maps → map_at mats k ≡ record { cols = level_size width maps k; rows = rows_at maps k }
