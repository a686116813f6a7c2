-- Complexes of free modules over a ring, given by matrices that act on row vectors. Maps, rows and entries count from 0.
use Rattle.std.specs.Prelude.{◌≡◌, ◌↔◌, ℕ, suc, ◌+◌, ◌<◌, ◌≤◌, List, [], length, All, slice_index_or}
use Rattle.hp_algebra.specs.Ring.{RingOf}
use Rattle.hp_algebra.specs.Rows.{entry, zero_row, row_times}
use Rattle.hp_linear.specs.Spaces.{AreCoefficients, IsCombination, AreIndependent}
use Rattle.hp_linear.specs.Matrices.{Matrix, IsMatrix}

-- map k of a complex, and the matrix without rows and columns where there is none
abbrev pub map_at : {R : Type 0} → List (Matrix R) → ℕ → Matrix R
map_at maps k = slice_index_or maps k (record { cols = 0; rows = [] })

-- each map but the first has as many columns as the map before it has rows
abbrev pub AreComposable : {R : Type 0} → List (Matrix R) → Type 0
AreComposable maps = (k : ℕ) → suc k < length maps → (map_at maps (suc k)).cols ≡ length (map_at maps k).rows

module _ {R : Type 0} (ring : RingOf R) where
  -- The maps are matrices over the ring, and each can be multiplied by the one before it.
  pub record AreMaps (maps : List (Matrix R)) : Type 0 where
    pub matrices : All (IsMatrix ring) maps
    pub composable : AreComposable maps

  -- c times the matrix: the combination of its rows with the coefficients c
  abbrev pub times_matrix : List R → Matrix R → List R
  times_matrix c m = row_times ring m.cols c m.rows

  -- c is a relation of the rows: c times the matrix is zero
  abbrev pub IsRelation : Matrix R → List R → Type 0
  IsRelation m c = AreCoefficients ring (length m.rows) c × (times_matrix c m ≡ zero_row ring m.cols)

  -- n times m is zero
  abbrev pub IsZeroProduct : Matrix R → Matrix R → Type 0
  IsZeroProduct n m = All (λ row. times_matrix row m ≡ zero_row ring m.cols) n.rows

  -- each map times the one before it is zero
  abbrev pub IsComplex : List (Matrix R) → Type 0
  IsComplex maps = (k : ℕ) → suc k < length maps → IsZeroProduct (map_at maps (suc k)) (map_at maps k)

  -- exact between n and m: the row vectors c with c times m zero are exactly the combinations of the rows of n
  abbrev pub IsExactAt : Matrix R → Matrix R → Type 0
  IsExactAt n m = (c : List R) → IsRelation m c ↔ IsCombination ring (length m.rows) n.rows c

  -- An exact complex: for each map but the last the row vectors c with c times the map zero are exactly the combinations of the rows of the next map, and for the last map only c = 0 is such.
  pub record IsExact (maps : List (Matrix R)) : Type 0 where
    pub inside : (k : ℕ) → suc k < length maps → IsExactAt (map_at maps (suc k)) (map_at maps k)
    pub last : (k : ℕ) → suc k ≡ length maps → AreIndependent ring (map_at maps k).cols (map_at maps k).rows

  -- in c times the matrix no two factors weigh more than `most` together
  abbrev pub HasProductsWithin : ℕ → Matrix R → List R → Type 0
  HasProductsWithin most m c = (k j : ℕ) → k < length m.rows → j < m.cols
      → ring.weight (entry ring c k) + ring.weight (entry ring (slice_index_or m.rows k []) j) ≤ most

  -- nor in any map times the one before it
  abbrev pub ComposesWithin : ℕ → List (Matrix R) → Type 0
  ComposesWithin most maps =
      (k : ℕ) → suc k < length maps → All (HasProductsWithin most (map_at maps k)) (map_at maps (suc k)).rows
