-- Lists of vectors that generate the same submodule, and lists of which no vector can be left out.
use Rattle.std.specs.Prelude.{◌↔◌, ℕ, ◌<◌, List, [], length, remove, slice_index_or}
use Rattle.hp_algebra.specs.Ring.{RingOf}
use Rattle.hp_module.specs.Vectors.{Vector, IsGenerated}

module _ {F : Type 0} (ring : RingOf F) (width : ℕ) where
  -- the two lists generate the same submodule
  abbrev pub GenerateSame : List (Vector F) → List (Vector F) → Type 0
  GenerateSame vs ws = (v : Vector F) → IsGenerated ring width vs v ↔ IsGenerated ring width ws v

  -- no vector of the list is in the submodule that the others generate
  abbrev pub IsIrredundant : List (Vector F) → Type 0
  IsIrredundant vs = (i : ℕ) → i < length vs → ¬ (IsGenerated ring width (remove vs i) (slice_index_or vs i []))
