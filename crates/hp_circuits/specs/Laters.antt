-- What the search for circuits needs of the later forms of a set, as data.
use Rattle.std.specs.Prelude.{◌≡◌, ℕ, ◌≤◌, ◌<◌, false, List, length, All, Contains}
use Rattle.hp_algebra.specs.Ring.{RingOf}
use Rattle.hp_algebra.specs.Rows.{is_zero_row}
use Rattle.hp_lists.specs.Lists.{Ordered}
use Rattle.hp_sets.specs.Sets.{Set}
use Rattle.hp_circuits.specs.declared.circuit_search.Later.{Later}

-- The numbers rise and are above those of the set; the remainders are rows of one width and not zero; there are as many coefficients as members.
pub record AreLater {K : Type 0} (ring : RingOf K) (T : Set) (later : List (Later K)) : Type 0 where
  pub rising : Ordered (λ d e. d.name < e.name) later
  pub above : (d : Later K) → Contains later d → (k : ℕ) → Contains T k → k < d.name
  pub numbers : (d : Later K) → Contains later d → (1 ≤ d.name) × (d.name ≤ 64)
  pub widths : (d e : Later K) → Contains later d → Contains later e → length d.rest ≡ length e.rest
  pub counts : (d : Later K) → Contains later d → length d.coefficients ≡ length T
  pub values : (d : Later K) → Contains later d → All ring.IsValue d.rest
  pub nonzero : (d : Later K) → Contains later d → is_zero_row ring d.rest ≡ false
