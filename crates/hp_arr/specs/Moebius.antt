-- The Möbius values of the flats, and the Poincaré and the characteristic polynomial.
use Rattle.std.specs.Prelude.{◌≡◌, ◌≢◌, ℕ, zero, suc, ◌+◌, ◌-◌, if◌then◌else◌, ◌&&◌, List, [], ◌∷◌, map, length, filter, ℤ, pos, ◌*ℤ◌, neg_ℤ}
use Rattle.hp_algebra.specs.Ring.{RingOf, Numbering}
use Rattle.hp_lists.specs.Lists.{below}
use Rattle.hp_algebra.specs.Integers.{sign, sum_over}
use Rattle.hp_sets.specs.Sets.{Set, sets_within, is_properly_within}
use Rattle.hp_arr.specs.Arrangement.{Arrangement}
use Rattle.hp_arr.specs.Flats.{IsFlat, is_flat, flats_of_rank, total_rank}

module _ {K : Type 0} (ring : RingOf K) (numbers : Numbering K) (arr : Arrangement K) where
  -- The Möbius function: 1 at the empty flat, and elsewhere minus its sum over the flats properly within.
  -- Those have fewer members, so the bound, which falls by one, is never met where it begins at the number of members.
  unfoldable pub mobius_bounded : ℕ → Set → ℤ
  mobius_bounded bound [] = pos 1
  mobius_bounded zero (i ∷ s) = pos 0
  mobius_bounded (suc bound) (i ∷ s) = neg_ℤ (sum_over
      (λ g. if is_flat ring numbers arr g && is_properly_within g (i ∷ s) then mobius_bounded bound g else pos 0)
      (sets_within (length arr.forms)))

  unfoldable pub mobius : Set → ℤ
  mobius f = mobius_bounded (length f) f

  -- What makes a function the Möbius function: its two equations.
  pub record IsMobius (mu : Set → ℤ) : Type 0 where
    pub at_empty : mu [] ≡ pos 1
    pub elsewhere : (f : Set) → IsFlat ring numbers arr f → f ≢ [] → mu f ≡ neg_ℤ (sum_over mu
        (filter (λ g. is_flat ring numbers arr g && is_properly_within g f) (sets_within (length arr.forms))))

  -- the sum of the values at the flats of rank k
  unfoldable pub rank_sum : ℕ → ℤ
  rank_sum k = sum_over mobius (flats_of_rank ring numbers arr k)

  -- the coefficients of pi, from degree 0 to the rank
  unfoldable pub poincare : List ℤ
  poincare = map (λ k. rank_sum k *ℤ sign k) (below (total_rank ring numbers arr + 1))

  -- the coefficients of chi, from degree 0 to the dimension
  unfoldable pub characteristic : List ℤ
  characteristic = map (λ k. rank_sum (arr.dim - k)) (below (arr.dim + 1))
