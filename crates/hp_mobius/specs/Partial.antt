-- Möbius values summed up from the covers: each flat adds its value to those of its covers that it misses the least member of.
use Rattle.std.specs.Prelude.{◌≡◌, ℕ, suc, ◌^◌, ◌==◌, Bool, true, if◌then◌else◌, not, ◌&&◌, List, [], ◌∷◌, map, take, Contains, ℤ, pos, ◌+ℤ◌, ◌≤ℤ◌, neg_ℤ}
use Rattle.std.specs.BTreeMap.{BTreeMap, get}
use Rattle.std.specs.Option.{unwrap_or}
use Rattle.hp_algebra.specs.Ring.{RingOf, Numbering}
use Rattle.hp_algebra.specs.Integers.{sum_over}
use Rattle.hp_sets.specs.Sets.{Set, contains, is_within, cmp_listed}
use Rattle.hp_sets.specs.declared.flat.Flat.{Flat}
use Rattle.hp_arr.specs.Arrangement.{Arrangement}
use Rattle.hp_arr.specs.Flats.{rank, flats, IsFlat}
use Rattle.hp_arr.specs.Moebius.{mobius}

-- whether f misses the least member of g; the empty set has none
abbrev pub misses_least : Set → Set → Bool
misses_least f [] = true
misses_least f (i ∷ g) = not (contains f i)

-- the sum noted for a set, and 0 where none is
abbrev pub noted : BTreeMap Set ℤ → Set → ℤ
noted sums g = unwrap_or (get cmp_listed sums g) (pos 0)

-- the Möbius value of a flat, by its sum: that of the empty flat is 1
abbrev pub value_from : BTreeMap Set ℤ → Set → ℤ
value_from sums [] = pos 1
value_from sums (i ∷ g) = noted sums (i ∷ g)

-- at most 2^60 in absolute value
pub record IsSmall (x : ℤ) : Type 0 where
  pub low : neg_ℤ (pos (2 ^ 60)) ≤ℤ x
  pub high : x ≤ℤ pos (2 ^ 60)

-- what g gets from f: its value where f misses the least member of g
abbrev pub share : Set → ℤ → Set → ℤ
share f value g = if misses_least f g then value else pos 0

-- Each of the covers has got its share of f's value, taken off, and no other set has got any.
pub record IsShared (f : Set) (value : ℤ) (covers : List Set) (before after : Set → ℤ) : Type 0 where
  pub got : (g : Set) → Contains covers g → after g ≡ before g +ℤ neg_ℤ (share f value g)
  pub rest : (g : Set) → ¬ (Contains covers g) → after g ≡ before g

module _ {K : Type 0} (ring : RingOf K) (numbers : Numbering K) (arr : Arrangement K) where
  -- what g gets from the flat f: something only where f lies within, is of one rank less and misses the least member
  abbrev pub gain : Set → Set → ℤ
  gain g f =
      if is_within f g && (misses_least f g && (suc (rank ring numbers arr f) == rank ring numbers arr g))
      then mobius ring numbers arr f else pos 0

  -- minus what g gets from some flats
  unfoldable pub partial : List Flat → Set → ℤ
  partial done g = neg_ℤ (sum_over (λ f. gain g f.set) done)

  -- The first k flats have their values, and the sums of all flats have what those have given.
  pub record IsAddedUp (k : ℕ) (sums : BTreeMap Set ℤ) (values : List (Flat × ℤ)) : Type 0 where
    pub sums_are : (g : Set) → IsFlat ring numbers arr g → noted sums g ≡ partial (take k (flats ring numbers arr)) g
    pub values_are : values ≡ map (λ f. (f, mobius ring numbers arr f.set)) (take k (flats ring numbers arr))
