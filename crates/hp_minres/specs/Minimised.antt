-- What a minimal resolution keeps of a resolution.
use Rattle.std.specs.Prelude.{◌≡◌, All}
use Rattle.hp_algebra.specs.Ring.{RingOf}
use Rattle.hp_complex.specs.Complexes.{map_at}
use Rattle.hp_module.specs.Vectors.{IsKept, zero_vector}
use Rattle.hp_resolution.specs.Resolutions.{Resolution}

module _ {F : Type 0} (ring : RingOf F) where
  -- each row of the first map is zero
  abbrev pub IsZeroFirst : Resolution F → Type 0
  IsZeroFirst r = All (λ v. v ≡ zero_vector ring (map_at r.maps 0).cols) (map_at r.maps 0).rows

  -- The rows of the first map of s are those of the first map of r that the rows before them don't generate.
  pub record HasKeptRows (r s : Resolution F) : Type 0 where
    pub columns : (map_at s.maps 0).cols ≡ (map_at r.maps 0).cols
    pub kept : IsKept ring (map_at r.maps 0).cols (map_at r.maps 0).rows (map_at s.maps 0).rows
