-- What makes a set one with a broken circuit: a form in the span of some of its forms, and below all of them.
use Rattle.std.specs.Prelude.{ℕ, ◌<◌, ◌≤◌, All, Contains, IsTrue, length}
use Rattle.hp_algebra.specs.Ring.{RingOf, Numbering}
use Rattle.hp_sets.specs.Sets.{Set, IsSetWithin, is_within}
use Rattle.hp_arr.specs.Arrangement.{Arrangement}
use Rattle.hp_arr.specs.Flats.{closure}

module _ {K : Type 0} (ring : RingOf K) (numbers : Numbering K) (arr : Arrangement K) where
  -- u lies in s, and i is the least form of the closure of u and below all members of u
  pub record IsBrokenBy (s : Set) (i : ℕ) (u : Set) : Type 0 where
    pub within : IsSetWithin (length arr.forms) u
    pub part : IsTrue (is_within u s)
    pub below : All (λ j. i < j) u
    pub spanned : Contains (closure ring numbers arr u) i
    pub least : All (λ j. i ≤ j) (closure ring numbers arr u)
