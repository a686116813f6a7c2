-- Spaces of rows: spans, independence, bases and dimension.
use Rattle.std.specs.Prelude.{◌≡◌, ◌↔◌, ℕ, List, length, Contains}
use Rattle.hp_algebra.specs.Ring.{RingOf}
use Rattle.hp_algebra.specs.Rows.{IsRow, row_times, zero_row}

module _ {R : Type 0} (ring : RingOf R) where
  -- one coefficient for each of so many rows
  abbrev pub AreCoefficients : ℕ → List R → Type 0
  AreCoefficients count cs = IsRow ring count cs

  -- v is a combination of the rows: a member of their span
  abbrev pub IsCombination : ℕ → List (List R) → List R → Type 0
  IsCombination width rows v = (cs : List R) × AreCoefficients (length rows) cs × (v ≡ row_times ring width cs rows)

  -- the two lists of rows have one span
  abbrev pub HaveSameSpan : ℕ → List (List R) → List (List R) → Type 0
  HaveSameSpan width rows others = (v : List R) → IsCombination width rows v ↔ IsCombination width others v

  -- only the combination with all coefficients zero is zero
  abbrev pub AreIndependent : ℕ → List (List R) → Type 0
  AreIndependent width rows = (cs : List R) → AreCoefficients (length rows) cs → row_times ring width cs rows ≡ zero_row ring width → cs ≡ zero_row ring (length rows)

  -- A basis of a space of rows: independent members that every member is a combination of.
  pub record IsBasisOf (width : ℕ) (V : List R → Type 0) (basis : List (List R)) : Type 0 where
    pub members : (v : List R) → Contains basis v → V v
    pub spanning : (v : List R) → V v → IsCombination width basis v
    pub independent : AreIndependent width basis

  -- the dimension of a space is the length of a basis
  abbrev pub HasDimension : ℕ → (List R → Type 0) → ℕ → Type 0
  HasDimension width V d = (basis : List (List R)) × IsBasisOf width V basis × (length basis ≡ d)
