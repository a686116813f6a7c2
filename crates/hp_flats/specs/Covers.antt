-- The flats that cover a flat.
use Rattle.std.specs.Prelude.{◌≡◌, ◌≢◌, ◌↔◌, ◌+◌, List, Contains, IsTrue}
use Rattle.std.specs.List.{AllPairs}
use Rattle.hp_algebra.specs.Ring.{RingOf, Numbering}
use Rattle.hp_arr.specs.Arrangement.{Arrangement}
use Rattle.hp_arr.specs.Flats.{rank, IsFlat}
use Rattle.hp_sets.specs.Sets.{Set, is_within}

module _ {K : Type 0} (ring : RingOf K) (numbers : Numbering K) (arr : Arrangement K) where
  -- g is a flat of one rank more that contains f
  abbrev pub IsCover : Set → Set → Type 0
  IsCover f g = IsFlat ring numbers arr g × IsTrue (is_within f g) × (rank ring numbers arr g ≡ rank ring numbers arr f + 1)

  -- all covers of f, each once
  pub record IsCoverList (f : Set) (covers : List Set) : Type 0 where
    pub members : (g : Set) → Contains covers g ↔ IsCover f g
    pub once : AllPairs (λ g h. g ≢ h) covers
