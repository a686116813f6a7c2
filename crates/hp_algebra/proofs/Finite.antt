-- A finite field with its numbering: the operations and their laws in one record.
use Rattle.std.specs.Prelude.{ℕ}
use Rattle.hp_algebra.specs.Ring.{RingOf, Numbering, IsRing, IsField, IsNumbering}

pub record Finite (K : Type 0) : Type 1 where
  pub ring : RingOf K
  pub inverse : K → K
  pub numbers : Numbering K
  pub field : IsField ring inverse
  pub num : IsNumbering ring numbers

module _ {K : Type 0} (F : Finite K) where
  abbrev pub laws : IsRing F.ring
  laws = F.field.is_ring

  -- the number of elements
  abbrev pub order : ℕ
  order = F.numbers.order
